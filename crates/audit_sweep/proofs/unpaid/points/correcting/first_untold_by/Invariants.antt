use Rattle.audit_sweep.proofs.unpaid_lemmas.points_lemmas.Words.{◌+◌, ◌-◌, ◌≤◌, ArePaid, Event, Happening, IsDue, IsFounded, IsKept, IsTold, List, OwesAt}
use Rattle.audit_sweep.proofs.unpaid_lemmas.points_lemmas.Words.{place_of, scenario_under}
use Rattle.audit_sweep.proofs.unpaid.points.correcting.first_untold_by.Given as goal

abbrev pub invariant-stretches : goal.invariant-stretches
invariant-stretches l =
    (l.after ≤ l.until)
    × ((befallen : List Event) (hs : List Happening) → IsKept l.network befallen hs l.events l.standings l.places
    → IsFounded place_of (IsDue (scenario_under l.network befallen)) hs
    → ArePaid (OwesAt (scenario_under l.network befallen) hs l.device) (IsTold (scenario_under l.network befallen) hs l.device) 0 (l.after + 1))

abbrev pub decreases-stretches : goal.decreases-stretches
decreases-stretches l = l.until - l.after
