use Rattle.lens_plan.specs.joining.Served.{IsReached}
use Rattle.std.proofs.{Common.{arith, refl, subst}, lemmas.List.{Elements.All-more, take_all}}
use Rattle.std.specs.List.{All}
use Rattle.lens_plan.proofs.joining.served.are_reached.Goals as goal

pub devices-preserved : goal.devices-preserved
devices-preserved c =
    All-more (IsReached c.args.network.now c.args.vl) c.args.devices.now c.devices.device-index _ c.devices-test.true c.devices.invariant
    (c.if-not-is_reached.ensures.0 refl)

pub returns : goal.returns
returns c =
    let all = take_all c.devices.device-index c.args.devices.now (omega (arith, c.devices-test.false)) in
    (λ t. subst (All (IsReached c.args.network.now c.args.vl)) all c.devices.invariant, λ b. refl)
