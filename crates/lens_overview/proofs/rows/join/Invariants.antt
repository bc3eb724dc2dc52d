use Rattle.{lens_overview.specs.Rows.joined, std.proofs.Common.{◌++◌, ◌≡◌, drop, take}}
use Rattle.lens_overview.proofs.rows.join.Given as goal

abbrev pub invariant-rows : goal.invariant-rows
invariant-rows l = record {
  same : l.rows.items ≡ l.fn.rows.items;
  joins : joined l.flow l.cells.items l.fn.rows.items
      ≡ take l.place l.fn.rows.items ++ joined l.flow l.cells.items (drop l.place l.fn.rows.items);
}
