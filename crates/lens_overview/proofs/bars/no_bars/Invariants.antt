use Rattle.std.proofs.Common.{◌≡◌, None, replicate}
use Rattle.lens_overview.proofs.bars.no_bars.Given as goal

abbrev pub invariant-columns : goal.invariant-columns
invariant-columns l = l.bars.items ≡ replicate l._place None
