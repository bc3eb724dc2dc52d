use Rattle.lens_overview.specs.{Shades.worse, declared.shade.Shade.TheVariants.Blank}
use Rattle.std.{proofs.Common.{◌≡◌, take}, specs.Prelude.fold}
use Rattle.lens_overview.proofs.cells.worst.Given as goal

abbrev pub invariant-cells : goal.invariant-cells
invariant-cells l = l.worst ≡ fold worse Blank (take l.shade-index l.cells)
