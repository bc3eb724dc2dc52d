use Rattle.audit_sweep.proofs.unpaid_lemmas.points_lemmas.Words.{◌+◌, ◌-◌, ◌≤◌, ArePaid, Event, Happening, IsDue, IsFounded, IsKept, IsTold, List, OwesAt}
use Rattle.audit_sweep.proofs.unpaid_lemmas.points_lemmas.Words.{ShowsWithin, place_of, scenario_under}
use Rattle.audit_sweep.proofs.unpaid.points.correcting.first_untold_within.Given as goal

abbrev pub invariant-points : goal.invariant-points
invariant-points l =
    (l.after ≤ l.from)
    × ((befallen : List Event) (hs : List Happening) → IsKept l.network befallen hs l.events l.standings l.places
    → IsFounded place_of (IsDue (scenario_under l.network befallen)) hs → ShowsWithin (scenario_under l.network befallen) hs l.device l.after l.until l.shown
    → ArePaid (OwesAt (scenario_under l.network befallen) hs l.device) (IsTold (scenario_under l.network befallen) hs l.device) l.after (l.from + 1))

abbrev pub decreases-points : goal.decreases-points
decreases-points l = l.until - l.from
