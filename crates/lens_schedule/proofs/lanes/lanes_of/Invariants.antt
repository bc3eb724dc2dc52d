use Rattle.lens_schedule.specs.Lanes.{lanes_below}
use Rattle.std.proofs.Common.{◌≡◌}
use Rattle.lens_schedule.proofs.lanes.lanes_of.Given as goal

abbrev pub invariant-ports : goal.invariant-ports
invariant-ports l = l.lanes.items ≡ lanes_below l.network l.entries l.port
