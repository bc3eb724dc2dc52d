use Rattle.{net_file.specs.Numbering.{IsBelow, numbering}, net_plan.specs.declared.network.Network.Network, std.proofs.Common.{◌<◌, ◌^◌, ◌≡◌, [], drop, length}}
use Rattle.{net_file.specs.Schema.{each, row_of}, net_plan.specs.Ranges.IsRowInRange, std.specs.List.All, toml.specs.View.items_view}
use Rattle.net_file.proofs.row.read_numbered.Given as goal

abbrev pub invariant-tables : goal.invariant-tables
invariant-tables l =
    (each (row_of (numbering l.vls.numbers) (numbering l.links.numbers)) l.rows.items (items_view (drop l.table-index l.tables)) ≡ each
    (row_of (numbering l.vls.numbers) (numbering l.links.numbers)) [] (items_view l.tables)) × (length l.rows.items < 2 ^ 32)
    × ((network : Network) → IsBelow (length network.vl) (numbering l.vls.numbers) → IsBelow (length network.link) (numbering l.links.numbers)
    → All (IsRowInRange network) l.rows.items)
