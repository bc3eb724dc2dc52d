use Rattle.std.proofs.Common.{arith, subst}
use Rattle.lens_slack.proofs.Spots.{beta_small}
use Rattle.net_plan.specs.Bounds.{IsBeta}
use Rattle.lens_slack.proofs.least.parts.steady_beta.Goals as goal

pub returns-clause-bound : goal.returns-clause-bound
returns-clause-bound c =
    let n = c.args.network.now in
    let most = beta_small n c.requires.range c.requires.tree c.amount-2.result (subst (λ z. IsBeta n z) c.amount-2.ensures.whole c.beta.ensures) in
    omega (arith, most)
