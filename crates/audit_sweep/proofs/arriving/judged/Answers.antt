use Rattle.audit_sweep.proofs.Words.{refl, scenario_under}
use Rattle.audit_sweep.proofs.arriving.judged.Goals as goal

pub returns : goal.returns
returns c befallen hs signal k what =
    let s = scenario_under c.args.network.now befallen in
    let p = c.args.passage in
    let at = c.standpoint-at.ensures.is befallen hs k in
    c.becomes.ensures s hs p.time p.cause p.link signal refl at
    (c.entered_as-entered.ensures.is s hs p.time p.cause signal refl at what) (c.last_taken-last.ensures befallen hs k)
