use Rattle.{lens_overview.specs.{Ranges.all_below, Rows.{passages_at, told_by}}, std.proofs.Common.{◌++◌, ◌≡◌}}
use Rattle.lens_overview.proofs.rows.push_passages.Given as goal

abbrev pub invariant-links : goal.invariant-links
invariant-links l = l.rows.items ≡ l.fn.rows.items ++ all_below (passages_at (told_by l.run)) l.place
