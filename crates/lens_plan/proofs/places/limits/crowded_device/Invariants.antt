use Rattle.lens_plan.specs.places.Limits.{rows_from}
use Rattle.{net_plan.specs.declared.ids.DeviceId.DeviceId, std.proofs.Common.{◌<◌, ◌≤◌}}
use Rattle.lens_plan.proofs.places.limits.crowded_device.Given as goal

abbrev pub invariant-devices : goal.invariant-devices
invariant-devices l = (earlier : DeviceId) → earlier.0 < l.place → rows_from l.network l.hops earlier ≤ 256
