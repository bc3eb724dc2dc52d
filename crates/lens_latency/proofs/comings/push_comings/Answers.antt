use Rattle.lens_latency.{proofs.Latencies.{pushed_first, pushed_next}, specs.Comings.{IsPartAt, some_coming}}
use Rattle.std.proofs.Common.{refl}
use Rattle.lens_latency.proofs.comings.push_comings.Goals as goal

pub devices-init : goal.devices-init
devices-init c = pushed_first (IsPartAt c.args.network.now c.args.vl.0) c.args.comings.now.items

pub devices-preserved : goal.devices-preserved
devices-preserved c =
    pushed_next (IsPartAt c.args.network.now c.args.vl.0) c.devices.place c.args.comings.now.items c.devices.comings.items c.push_some.new.comings.items
    (some_coming c.coming_of.result) c.devices.invariant (c.coming_of.result, c.coming_of.ensures, refl) c.in-Ok.ensures
