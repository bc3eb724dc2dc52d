use Rattle.std.proofs.Common.{◌+ℤ◌, ◌-ℤ◌, ◌∙◌, ap, of_z, rules, to_z, ℤ}
use Rattle.lens_why.proofs.Grounded.{heard_is, heard_made}
use Rattle.sync_state.specs.Plan.{expected_at}
use Rattle.{run_law.specs.scenario.Devices.plan_of, std.{proofs.lemmas.Int.to_z-of_z, specs.Int.w128}, tte_units.specs.Amount.amount}
use Rattle.lens_why.proofs.ground.heard.Goals as goal

pub returns : goal.returns
returns c =
    let expected = expected_at (plan_of c.args.network.now c.args.device) c.args.cycle in
    heard_made c.args.point _ c.args.adjustment _ c.local_at-expected.result _ c.beyond-off.result _ (amount c.args.network.now.precision)
    (to_z-of_z w128 c.args.adjustment (search rules)) (to_z-of_z w128 c.local_at-expected.result (search rules))
    (to_z-of_z w128 c.beyond-off.result (search rules)) c.magnitude.ensures
    ∙ heard_is c.args.point c.args.adjustment expected c.joined_adjustment-joined.result c.local_at-expected.result c.beyond-off.result
    (amount c.args.network.now.precision) c.joined_adjustment-joined.ensures.value
    (c.local_at-expected.ensures ∙ ap (λ z. z +ℤ c.args.point.0) (to_z-of_z w128 c.joined_adjustment-joined.result (search rules)))
    (c.beyond-off.ensures ∙ ap (λ z. z -ℤ to_z w128 (of_z w128 c.joined_adjustment-joined.result)) (to_z-of_z w128 c.args.adjustment (search rules))
    ∙ ap (λ z. c.args.adjustment -ℤ z) (to_z-of_z w128 c.joined_adjustment-joined.result (search rules)))
