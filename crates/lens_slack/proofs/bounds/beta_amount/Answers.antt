use Rattle.std.proofs.Common.{subst, sym}
use Rattle.lens_slack.proofs.Spots.{beta_small}
use Rattle.net_plan.specs.Bounds.{IsBeta}
use Rattle.lens_slack.proofs.bounds.beta_amount.Goals as goal

pub returns-clause-value : goal.returns-clause-value
returns-clause-value c = sym c.amount.ensures.whole

pub returns-clause-bound : goal.returns-clause-bound
returns-clause-bound c =
    beta_small c.args.network.now c.requires.range c.requires.tree c.amount.result
    (subst (λ z. IsBeta c.args.network.now z) c.amount.ensures.whole c.requires.beta)
