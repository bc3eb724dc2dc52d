use Rattle.{net_plan.specs.declared.network.Network.Network, std.proofs.{Common.{ap, refl, rules}, lemmas.Int.to_z-of_z}}
use Rattle.std.specs.Int.{w64}
use Rattle.tte_traces.proofs.storms_lemmas.Summed.{is_fine, sums_up}
use Rattle.tte_traces.proofs.storms.summing.told.Goals as goal

pub returns : goal.returns
returns c =
    let fine = is_fine c.requires.stormed c.requires.most c.network.ensures.range c.network.ensures.rules in
    sums_up fine _ refl refl c.counts.ensures (to_z-of_z w64 c.args.seen.now.spread (search rules))
    (ap (λ (n : Network). n.precision) c.network.ensures.value)
