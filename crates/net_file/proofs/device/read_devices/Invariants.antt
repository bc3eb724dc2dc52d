use Rattle.{net_file.specs.Schema.{device_of, each}, net_plan.specs.Ranges.IsDeviceInRange, std.proofs.Common.{◌<◌, ◌^◌, ◌≡◌, [], drop, length}}
use Rattle.{std.specs.List.All, toml.specs.View.items_view}
use Rattle.net_file.proofs.device.read_devices.Given as goal

abbrev pub invariant-tables : goal.invariant-tables
invariant-tables l =
    (each device_of l.devices.items (items_view (drop l.table-index l.tables)) ≡ each device_of [] (items_view l.tables)) × (length l.devices.items < 2 ^ 32)
    × All IsDeviceInRange l.devices.items
