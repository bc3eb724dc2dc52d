use Rattle.audit_law.specs.events.Readings.{scenario_under}
use Rattle.audit_sweep.proofs.records_lemmas.wires_lemmas.Wires.{owed_arrival}
use Rattle.audit_sweep.proofs.records.wires.receiving.arrival_due.Goals as goal

pub returns-clause-owed : goal.returns-clause-owed
returns-clause-owed c befallen hs h cause rem there shown k =
    owed_arrival (scenario_under c.args.network.now befallen) hs h c.args.until cause c.received_by.result rem.range rem.within there
    (c.received_by.ensures befallen h rem shown k)
