use Rattle.audit_sweep.proofs.Words.{refl, scenario_under}
use Rattle.audit_sweep.proofs.clocks.is_corrected.Goals as goal

pub returns : goal.returns
returns c befallen hs k founded none =
    let s = scenario_under c.args.network.now befallen in
    let m = c.of-moment.ensures c.args.network.now befallen k.events c.requires.there in
    c.corrects.ensures s hs c.args.time
    (record { of_network = refl; befalls = m; shows = c.before_time-shown.ensures s hs k.standings })
    (c.heard-heard.ensures befallen hs k founded none m.reading.before)
