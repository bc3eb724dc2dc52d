use Rattle.std.proofs.Common.{List}
use Rattle.audit_law.{proofs.law_lemmas.Owed.IsOfFirst, specs.law.FirstDebts.TellsFirst}
use Rattle.audit_sweep.{proofs.unpaid_lemmas.dispatches_lemmas.RowDebts.IsByRow}
use Rattle.audit_sweep.{specs.unpaid.dispatches.Debtors.{AreKnown, scenario_of}}
use Rattle.{net_plan.specs.declared.event.Event.Event, run_law.specs.records.Happenings.Happening}
use Rattle.audit_sweep.proofs.unpaid.dispatches.debtor.RowDebtor.first_on.Given as goal

abbrev pub invariant-rows : goal.invariant-rows
invariant-rows l =
    (befallen : List Event) (hs : List Happening) → AreKnown befallen hs l.self
    → TellsFirst (scenario_of l.self befallen) hs l.self.until
    (IsOfFirst (IsByRow (scenario_of l.self befallen) hs l.link l.rows) l.row-index) l.first
