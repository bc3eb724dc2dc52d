use Rattle.{lens_overview.specs.Pieces.{deepest, rows_from, top}, std.proofs.Common.{◌++◌, ◌≡◌, ◌≤◌, drop}}
use Rattle.lens_overview.proofs.pieces.push_rows.Given as goal

abbrev pub invariant-rows : goal.invariant-rows
invariant-rows l = record {
  pieces : l.pieces.items ++ rows_from l.grid l.y (drop l.row-index l.rows) ≡ l.fn.pieces.items ++ rows_from l.grid top l.rows;
  deep : l.y ≤ deepest;
}
