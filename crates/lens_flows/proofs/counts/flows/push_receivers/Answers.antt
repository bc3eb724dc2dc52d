use Rattle.std.proofs.Common.{ap, arith, length}
use Rattle.lens_flows.proofs.counts_lemmas.Counts.{next_vl}
use Rattle.lens_flows.proofs.counts.flows.push_receivers.Goals as goal

pub devices-preserved : goal.devices-preserved
devices-preserved c before = c.in_ok-push_flow.ensures (c.devices.invariant before)

pub returns : goal.returns
returns c before =
    let e = ap (λ devices. length devices) c.as_slice-place-end.ensures in
    let h = c.devices-test.false in
    next_vl c.args.network.now c.args.vl.0 c.devices.place (omega (arith, h, e)) (c.devices.invariant before)
