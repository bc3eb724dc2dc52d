use Rattle.std.proofs.Common.{◌≡◌, replicate}
use Rattle.lens_overview.proofs.cells.even.Given as goal

abbrev pub invariant-cells : goal.invariant-cells
invariant-cells l = l.cells.items ≡ replicate l._place l.shade
