use Rattle.{lens_overview.specs.Pieces.{not_begun, strokes_from}, std.proofs.Common.{◌++◌, ◌≡◌, drop}}
use Rattle.lens_overview.proofs.pieces.push_strokes.Given as goal

abbrev pub invariant-cells : goal.invariant-cells
invariant-cells l = l.pieces.items ++ strokes_from l.grid l.label l.y l.begun l.place (drop l.place l.cells) ≡ l.fn.pieces.items ++ strokes_from l.grid l.label l.y not_begun 0 l.cells
