use Rattle.{lens_plan.specs.places.Offsets.StandsClear, std.proofs.Common.take}
use Rattle.lens_plan.proofs.places.offsets.hit.Given as goal

abbrev pub invariant-rows : goal.invariant-rows
invariant-rows l = StandsClear l.gamma l.slot l.offset (take l.row-index l.rows)
