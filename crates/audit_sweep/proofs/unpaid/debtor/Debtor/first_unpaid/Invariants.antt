use Rattle.audit_law.proofs.law_lemmas.Owed.{IsOfFirst}
use Rattle.audit_sweep.proofs.unpaid_lemmas.Words.{◌+◌, AreKnown, Event, Happening, IsRecordDebtOf, List, TellsFirst, scenario_of, ℕ}
use Rattle.audit_sweep.proofs.unpaid.debtor.Debtor.first_unpaid.Given as goal

-- it is the first of what the records so far bring
abbrev pub invariant-records : goal.invariant-records
invariant-records l =
    (befallen : List Event) (hs : List Happening) → AreKnown befallen hs l.self
    → TellsFirst (scenario_of l.self befallen) hs l.self.until
    (IsOfFirst (λ (n : ℕ). IsRecordDebtOf (n + 1)) l.place) l.first
