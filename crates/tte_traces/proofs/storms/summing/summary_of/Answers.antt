use Rattle.tte_traces.{proofs.storms_lemmas.Drawn.has_stormed, specs.storms.Storms.HasStormed}
use Rattle.std.proofs.Common.{subst}
use Rattle.tte_traces.proofs.storms.summing.summary_of.Goals as goal

pub told-requires-clause-stormed : goal.told-requires-clause-stormed
told-requires-clause-stormed g c =
    let d = c.in-All.ensures in
    let seen = c.drive.new.observer in
    let origin = c.new-storm.result in
    let storm = c.new-storm.ensures in
    let has = has_stormed d.ended.0 d.ended.1 d.stands d.records d.sees in
    subst (λ n. HasStormed n c.args.seed c.args.cycles seen) c.network-network.ensures.value
    (subst (λ k. HasStormed c.network-network.result.now c.args.seed k seen) storm.cycles_is
    (subst (λ k. HasStormed c.network-network.result.now k origin.storm.cycles seen) storm.seed_is has))
