use Rattle.audit_law.specs.events.Readings.{scenario_under}
use Rattle.audit_sweep.proofs.index.Index.state_before.Goals as goal

pub returns : goal.returns
returns c befallen hs k =
    let s = scenario_under c.args.network.now befallen in
    c.state_before.ensures s hs c.args.device c.args.time (c.is_turned_on_at.ensures c.args.network.now befallen k.events c.requires.there)
    (c.before_time-shown.ensures s hs k.standings)
