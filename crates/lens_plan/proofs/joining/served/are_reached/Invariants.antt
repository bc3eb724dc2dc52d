use Rattle.{lens_plan.specs.joining.Served.IsReached, std.{proofs.Common.take, specs.List.All}}
use Rattle.lens_plan.proofs.joining.served.are_reached.Given as goal

abbrev pub invariant-devices : goal.invariant-devices
invariant-devices l = All (IsReached l.network l.vl) (take l.device-index l.devices)
