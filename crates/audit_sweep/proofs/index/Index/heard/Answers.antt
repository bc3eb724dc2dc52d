use Rattle.{audit_law.specs.events.Readings.scenario_under, audit_sweep.specs.Indexing.before_corrections, std.proofs.Common.refl}
use Rattle.audit_sweep.proofs.index.Index.heard.Goals as goal

pub returns : goal.returns
returns c befallen hs k after =
    let s = scenario_under c.args.network.now befallen in
    let t = c.args.time in
    let d = c.args.device in
    let m = c.of-moment.ensures c.args.network.now befallen k.events c.requires.there in
    c.heard_since.ensures s (before_corrections t hs) d t (record { of_network = refl; reads = m.reading.before }) after
    (c.before_rank-shown.ensures s hs k.standings)
