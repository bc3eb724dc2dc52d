use Rattle.std.proofs.{Common.{◌≡◌, arith, subst, sym}, lemmas.Int.ints}
use Rattle.lens_slack.proofs.Spots.{beta_same}
use Rattle.net_plan.specs.Bounds.{IsBeta}
use Rattle.lens_slack.proofs.bounds.errors_of.Goals as goal

pub returns-clause-value : goal.returns-clause-value
returns-clause-value c beta is =
    let network = c.args.plan.now.network.now in
    let same : beta ≡ c.beta_amount.result =
    beta_same network c.requires.tree beta c.beta_amount.result is (subst (IsBeta network) (sym c.beta_amount.ensures.value) c.requires.beta) in
    omega (arith, ints, same, c.amount.ensures.whole, c.gamma.ensures, c.amount-2.ensures.value)
