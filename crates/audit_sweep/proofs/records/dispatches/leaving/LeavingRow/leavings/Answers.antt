use Rattle.audit_sweep.proofs.records_lemmas.dispatches_lemmas.Dispatches.{are_leavings}
use Rattle.audit_sweep.proofs.records.dispatches.leaving.LeavingRow.leavings.Goals as goal

pub returns-clause-is : goal.returns-clause-is
returns-clause-is c =
    are_leavings c.args.network.now c.series.result c.requires.row c.if-self.false c.series.ensures.first
    c.series.ensures.step
