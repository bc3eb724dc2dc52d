use Rattle.{net_file.specs.Reading.are_tables, std.proofs.Common.{◌≡◌, drop}, toml.specs.View.items_view}
use Rattle.net_file.proofs.reader.are_tables.Given as goal

abbrev pub invariant-values : goal.invariant-values
invariant-values l = are_tables (items_view (drop l.value-index l.values)) ≡ are_tables (items_view l.values)
