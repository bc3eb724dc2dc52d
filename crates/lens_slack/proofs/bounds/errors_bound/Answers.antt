use Rattle.std.proofs.Common.{rules, subst}
use Rattle.lens_slack.proofs.Spots.{errors_first}
use Rattle.schedule_checker.proofs.Elements.{beta_is_whole}
use Rattle.{net_plan.specs.Bounds.IsBeta, tte_units.specs.Amount.amount}
use Rattle.lens_slack.proofs.bounds.errors_bound.Goals as goal

pub returns-clause-is : goal.returns-clause-is
returns-clause-is c =
    let plan = c.args.plan.now in
    let network = plan.network.now in
    let is = c.requires.beta in
    errors_first network c.errors_of.result (amount plan.beta)
    (subst (IsBeta network) (beta_is_whole plan.beta is) is) c.errors_of.ensures.value
    c.found.result (search rules)
