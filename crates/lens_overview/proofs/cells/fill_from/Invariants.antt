use Rattle.std.proofs.Common.{◌++◌, ◌-◌, ◌≡◌, drop, replicate, take}
use Rattle.lens_overview.proofs.cells.fill_from.Given as goal

abbrev pub invariant-cells : goal.invariant-cells
invariant-cells l = l.cells ≡ take l.from l.fn.cells ++ (replicate (l.place - l.from) l.shade ++ drop l.place l.fn.cells)
