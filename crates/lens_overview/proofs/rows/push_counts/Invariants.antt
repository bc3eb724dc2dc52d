use Rattle.{lens_overview.specs.Rows.{count_rows, told_by}, std.proofs.Common.{◌++◌, ◌≡◌, take}}
use Rattle.lens_overview.proofs.rows.push_counts.Given as goal

abbrev pub invariant-kinds : goal.invariant-kinds
invariant-kinds l = l.rows.items ≡ l.fn.rows.items ++ count_rows (told_by l.run) (take l.kind-index l.kinds)
