use Rattle.{net_file.specs.Numbering.{IsBelow, numbering}, net_plan.specs.declared.network.Network.Network, std.proofs.Common.{◌<◌, ◌^◌, ◌≡◌, [], drop, length}}
use Rattle.{net_file.specs.Schema.{each, vl_of}, net_plan.specs.Ranges.IsVlInRange, std.specs.List.All, toml.specs.View.items_view}
use Rattle.net_file.proofs.vl.read_numbered.Given as goal

abbrev pub invariant-tables : goal.invariant-tables
invariant-tables l =
    (each (vl_of (numbering l.devices.numbers)) l.vls.items (items_view (drop l.table-index l.tables)) ≡ each (vl_of (numbering l.devices.numbers)) []
    (items_view l.tables)) × (length l.vls.items < 2 ^ 32)
    × ((network : Network) → IsBelow (length network.device) (numbering l.devices.numbers) → All (IsVlInRange network) l.vls.items)
