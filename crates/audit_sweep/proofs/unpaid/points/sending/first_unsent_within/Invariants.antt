use Rattle.{audit_law.specs.events.Remembering.Remembers, audit_sweep.specs.records.places.Placing.ArePlacesOf}
use Rattle.audit_sweep.proofs.unpaid_lemmas.points_lemmas.Words.{◌+◌, ◌-◌, ◌≤◌, ArePaid, Event, Happening, IsSent, List, Sends, ShowsWithin, scenario_under}
use Rattle.audit_sweep.proofs.unpaid.points.sending.first_unsent_within.Given as goal

abbrev pub invariant-begun : goal.invariant-begun
invariant-begun l =
    (l.after ≤ l.from)
    × ((befallen : List Event) (hs : List Happening) → Remembers l.network befallen l.events → ArePlacesOf hs l.places
    → ShowsWithin (scenario_under l.network befallen) hs l.device l.after l.until l.shown
    → ArePaid (Sends (scenario_under l.network befallen) hs l.device) (IsSent (scenario_under l.network befallen) hs l.device) l.after (l.from + 1))

abbrev pub decreases-begun : goal.decreases-begun
decreases-begun l = l.until - l.from
