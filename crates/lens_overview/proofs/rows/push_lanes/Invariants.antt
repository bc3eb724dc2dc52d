use Rattle.{lens_overview.specs.{Ranges.all_below, Rows.{lane_at, told_by}}, std.proofs.Common.{◌++◌, ◌≡◌}}
use Rattle.lens_overview.proofs.rows.push_lanes.Given as goal

abbrev pub invariant-devices : goal.invariant-devices
invariant-devices l = l.rows.items ≡ l.fn.rows.items ++ all_below (lane_at l.network (told_by l.run)) l.place
