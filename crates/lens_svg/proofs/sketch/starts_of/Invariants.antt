use Rattle.{lens_svg.specs.Lanes.start_of, std.proofs.Common.{◌≡◌, map, take}}
use Rattle.lens_svg.proofs.sketch.starts_of.Given as goal

abbrev pub invariant-devices : goal.invariant-devices
invariant-devices l = l.grounds.items ≡ map start_of (take l.device-index l.devices)
