use Rattle.audit_law.{proofs.law_lemmas.Owed.IsOfFirst, specs.law.FirstDebts.TellsFirst}
use Rattle.audit_sweep.specs.unpaid.Sorts.{IsPointDebtOf}
use Rattle.audit_sweep.proofs.unpaid_lemmas.points_lemmas.Words.{Event, Happening, IsDue, IsFounded, IsKept, List, place_of, scenario_under, ℕ}
use Rattle.audit_sweep.proofs.unpaid.points.correcting.first_untold.Given as goal

abbrev pub invariant-devices : goal.invariant-devices
invariant-devices l =
    (befallen : List Event) (hs : List Happening) → IsKept l.network befallen hs l.events l.standings l.places
    → IsFounded place_of (IsDue (scenario_under l.network befallen)) hs
    → TellsFirst (scenario_under l.network befallen) hs l.until
    (IsOfFirst (λ (n : ℕ). IsPointDebtOf (record { 0 = n })) l.place) l.first
