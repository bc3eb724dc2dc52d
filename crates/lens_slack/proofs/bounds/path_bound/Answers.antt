use Rattle.std.proofs.Common.{rules, subst, sym}
use Rattle.lens_slack.proofs.Spots.{no_path, path_first}
use Rattle.net_plan.specs.Bounds.{IsBeta}
use Rattle.lens_slack.proofs.bounds.path_bound.Goals as goal

pub returns-then-not-is_device_of-clause-tightest : goal.returns-then-not-is_device_of-clause-tightest
returns-then-not-is_device_of-clause-tightest c = no_path c.args.plan.now.network.now c.args.device c.args.channel (λ member. absurd (search rules))

pub returns-clause-tightest : goal.returns-clause-tightest
returns-clause-tightest c =
    let network = c.args.plan.now.network.now in
    let is_beta = subst (λ z. IsBeta network z) (sym c.beta_amount.ensures.value) c.requires.beta in
    path_first network c.requires.tree c.args.device c.args.channel c.beta_amount.result c.path.result c.found.result is_beta
    (c.is_device_of.ensures.0 c.if-not-is_device_of.false) c.path.ensures.leads (search rules)
