use Rattle.lens_schedule.specs.Picture.{frame_part}
use Rattle.std.proofs.Common.{◌++◌, ◌≡◌, map, take}
use Rattle.lens_schedule.proofs.picture.push_frames.Given as goal

abbrev pub invariant-entries : goal.invariant-entries
invariant-entries l =
    l.parts.items ≡ l.fn.parts.items ++ map (frame_part l.network l.scale l.lanes l.top) (take l.entry-index l.entries)
