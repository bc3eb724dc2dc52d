use Rattle.lens_schedule.specs.Picture.{lane_part}
use Rattle.std.proofs.Common.{◌++◌, ◌≡◌, map, take}
use Rattle.lens_schedule.proofs.picture.push_lanes.Given as goal

abbrev pub invariant-lanes : goal.invariant-lanes
invariant-lanes l = l.parts.items ≡ l.fn.parts.items ++ map (lane_part l.lanes l.top) (take l.lane-index l.lanes)
