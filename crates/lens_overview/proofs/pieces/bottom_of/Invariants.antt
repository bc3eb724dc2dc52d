use Rattle.{lens_overview.specs.Pieces.{bottom_of, deepest, top}, std.proofs.Common.{◌≡◌, ◌≤◌, take}}
use Rattle.lens_overview.proofs.pieces.bottom_of.Given as goal

abbrev pub invariant-rows : goal.invariant-rows
invariant-rows l = record { value : l.bottom ≡ bottom_of top (take l.row-index l.rows); most : l.bottom ≤ deepest }
