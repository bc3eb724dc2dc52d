use Rattle.audit_law.{proofs.law_lemmas.Owed.IsOfFirst, specs.law.FirstDebts.TellsFirst}
use Rattle.audit_sweep.specs.unpaid.{Sorts.IsDispatchDebtOn, dispatches.Debtors.{AreKnown, scenario_of}}
use Rattle.{net_plan.specs.declared.event.Event.Event, run_law.specs.records.Happenings.Happening, std.proofs.Common.{List, ℕ}}
use Rattle.audit_sweep.proofs.unpaid.dispatches.debtor.RowDebtor.first_undispatched.Given as goal

abbrev pub invariant-links : goal.invariant-links
invariant-links l =
    (befallen : List Event) (hs : List Happening) → AreKnown befallen hs l.self
    → TellsFirst (scenario_of l.self befallen) hs l.self.until
    (IsOfFirst (λ (n : ℕ). IsDispatchDebtOn (record { 0 = n })) l.place) l.first
