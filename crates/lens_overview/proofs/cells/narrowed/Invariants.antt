use Rattle.lens_overview.specs.{Cells.{in_column, worst}, Ranges.each_below}
use Rattle.std.proofs.Common.{◌≡◌}
use Rattle.lens_overview.proofs.cells.narrowed.Given as goal

abbrev pub invariant-columns : goal.invariant-columns
invariant-columns l = l.cells.items ≡ each_below (λ column. worst (in_column l.grid l.each column)) l.column
