use Rattle.{lens_svg.specs.Sketching.no_marks_in, std.proofs.Common.{◌≡◌, take}}
use Rattle.lens_svg.proofs.sketch.no_marks_in.Given as goal

abbrev pub invariant-devices : goal.invariant-devices
invariant-devices l = l.seats.items ≡ no_marks_in (take l._device-index l.devices)
