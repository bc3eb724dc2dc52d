use Rattle.{net_file.specs.Numbering.{first_of, numbering}, net_plan.specs.Bearers.device_names, std.proofs.Common.{◌≡◌, take}}
use Rattle.net_file.proofs.names.Names.of_devices.Given as goal

abbrev pub invariant-devices : goal.invariant-devices
invariant-devices l = numbering l.names.numbers ≡ first_of (device_names (take l.index l.devices))
