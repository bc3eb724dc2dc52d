use Rattle.lens_sheet.proofs.Sheets.{jitter_left, rest_most}
use Rattle.lens_slack.proofs.Spots.{beta_small}
use Rattle.net_plan.specs.Bounds.{IsBeta}
use Rattle.std.proofs.Common.{◌+◌, arith, refl, subst}
use Rattle.lens_sheet.proofs.weights.greatest_jitter.Goals as goal

pub overflow_sub-result : goal.overflow_sub-result
overflow_sub-result c =
    let n = c.args.network.now in
    let is = subst (λ z. IsBeta n z) c.amount.ensures.whole c.beta.ensures in
    let drift = c.drift_of.ensures.value in
    let rest = c.roundings_over.ensures.value in
    rest_most c.amount.result (c.drift_of.result + c.roundings_over.result) is c.requires.links
    (omega (arith, drift, rest))

pub returns-clause-greatest : goal.returns-clause-greatest
returns-clause-greatest c =
    let n = c.args.network.now in
    let is = subst (λ z. IsBeta n z) c.amount.ensures.whole c.beta.ensures in
    let drift = c.drift_of.ensures.value in
    let rest = c.roundings_over.ensures.value in
    jitter_left c.amount.result (c.drift_of.result + c.roundings_over.result) _ is c.requires.links
    (omega (arith, drift, rest)) refl

pub returns-clause-bound : goal.returns-clause-bound
returns-clause-bound c =
    let n = c.args.network.now in
    let most = beta_small n c.requires.range c.requires.tree c.amount.result (subst (λ z. IsBeta n z) c.amount.ensures.whole c.beta.ensures) in
    omega (arith, most)
