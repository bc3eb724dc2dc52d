use Rattle.lens_schedule.specs.Lanes.{lanes_before}
use Rattle.std.proofs.Common.{◌≡◌, ◌≤◌, take}
use Rattle.lens_schedule.proofs.lanes.lanes_before.Given as goal

abbrev pub invariant-lanes : goal.invariant-lanes
invariant-lanes l = record {
  counted : l.count ≡ lanes_before (take l.lane-index l.lanes) l.column l.port;
  few : l.count ≤ l.lane-index;
}
