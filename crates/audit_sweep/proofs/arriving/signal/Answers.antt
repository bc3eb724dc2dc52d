use Rattle.audit_sweep.proofs.{Lacks.coming, Words.scenario_under}
use Rattle.audit_sweep.proofs.arriving.signal.Goals as goal

pub returns-in-Some : goal.returns-in-Some
returns-in-Some c befallen hs k =
    let found = c.in-Some.ensures hs k.records in
    coming (scenario_under c.args.network.now befallen) hs c.args.passage found.0 c.arriving.result found.1
    (c.arriving.ensures befallen found.0 k.events (k.by_cause c.args.passage.cause found.0 found.1) found.2)
