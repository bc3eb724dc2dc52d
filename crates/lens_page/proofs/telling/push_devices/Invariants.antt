use Rattle.{lens_page.specs.Lines.device_line, std.{proofs.Common.{◌++◌, ◌≡◌, map, take}, specs.List.concat}}
use Rattle.lens_page.proofs.telling.push_devices.Given as goal

abbrev pub invariant-devices : goal.invariant-devices
invariant-devices l = l.text.items ≡ l.fn.text.items ++ concat (map device_line (take l.device-index l.device-items))
