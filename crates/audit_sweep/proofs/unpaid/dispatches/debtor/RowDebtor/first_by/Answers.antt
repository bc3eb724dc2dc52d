use Rattle.audit_sweep.{proofs.unpaid_lemmas.dispatches_lemmas.RowDebts.{first_row, row_fit}}
use Rattle.audit_sweep.{specs.unpaid.dispatches.Debtors.scenario_of}
use Rattle.audit_sweep.proofs.unpaid.dispatches.debtor.RowDebtor.first_by.Goals as goal

pub leavings-requires-clause-row : goal.leavings-requires-clause-row
leavings-requires-clause-row c = row_fit c.requires.fit.range c.requires.row

pub returns-in-Some : goal.returns-in-Some
returns-in-Some c befallen hs known =
    first_row (scenario_of c.args.self.now befallen) hs c.args.self.now.until c.first_in.result c.requires.row
    (c.first_in.ensures befallen hs known)

pub returns-in-None : goal.returns-in-None
returns-in-None c befallen hs known = λ o by owed. absurd (c.in-None.ensures.is by.frame.cycle by.owes.occurs)
