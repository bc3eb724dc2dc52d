use Rattle.audit_law.{proofs.law_lemmas.Owed.IsOfFirst, specs.law.FirstDebts.TellsFirst}
use Rattle.audit_sweep.specs.unpaid.Sorts.{IsSendingDebtOf}
use Rattle.audit_sweep.proofs.unpaid_lemmas.points_lemmas.Words.{Event, Happening, IsKept, List, scenario_under, ℕ}
use Rattle.audit_sweep.proofs.unpaid.points.sending.first_unsent.Given as goal

abbrev pub invariant-devices : goal.invariant-devices
invariant-devices l =
    (befallen : List Event) (hs : List Happening) → IsKept l.network befallen hs l.events l.standings l.places
    → TellsFirst (scenario_under l.network befallen) hs l.until
    (IsOfFirst (λ (n : ℕ). IsSendingDebtOf (record { 0 = n })) l.place) l.first
