use Rattle.lens_schedule.specs.Lanes.{column_of}
use Rattle.lens_schedule.specs.Picture.{zone_part}
use Rattle.lens_schedule.specs.Zones.{stretches}
use Rattle.std.proofs.Common.{◌++◌, ◌≡◌, map, take}
use Rattle.lens_schedule.proofs.picture.push_zones.Given as goal

abbrev pub invariant-stretches : goal.invariant-stretches
invariant-stretches l =
    l.parts.items
    ≡ l.fn.parts.items ++ map (zone_part l.network l.scale l.sheet (column_of l.channel)) (take l.stretch-index stretches)
