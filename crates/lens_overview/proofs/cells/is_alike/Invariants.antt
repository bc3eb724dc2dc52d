use Rattle.lens_overview.specs.Cells.{is_alike}
use Rattle.std.proofs.Common.{◌≡◌, drop}
use Rattle.lens_overview.proofs.cells.is_alike.Given as goal

abbrev pub invariant-cells : goal.invariant-cells
invariant-cells l = is_alike l.cells l.others ≡ is_alike (drop l.place l.cells) (drop l.place l.others)
