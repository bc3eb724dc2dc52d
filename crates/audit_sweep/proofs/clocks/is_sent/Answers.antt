use Rattle.audit_sweep.proofs.Words.{refl, scenario_under}
use Rattle.audit_sweep.proofs.clocks.is_sent.Goals as goal

pub returns : goal.returns
returns c befallen hs k =
    let s = scenario_under c.args.network.now befallen in
    c.sends.ensures s hs c.args.time (record {
      of_network = refl;
      befalls = c.of-moment.ensures c.args.network.now befallen k.events c.requires.there;
      shows = c.before_time-shown.ensures s hs k.standings;
    })
