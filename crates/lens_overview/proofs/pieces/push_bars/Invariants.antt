use Rattle.{lens_overview.specs.Pieces.bars_from, std.proofs.Common.{◌++◌, ◌≡◌, drop}}
use Rattle.lens_overview.proofs.pieces.push_bars.Given as goal

abbrev pub invariant-bars : goal.invariant-bars
invariant-bars l = l.pieces.items ++ bars_from l.grid l.greatest l.column (drop l.column l.bars) ≡ l.fn.pieces.items ++ bars_from l.grid l.greatest 0 l.bars
