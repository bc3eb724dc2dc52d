use Rattle.lens_plan.specs.text.Blocks.{row_block}
use Rattle.std.{proofs.Common.{◌++◌, ◌≡◌, take}, specs.List.flat_map}
use Rattle.lens_plan.proofs.text.blocks.push_rows.Given as goal

abbrev pub invariant-rows : goal.invariant-rows
invariant-rows l = l.lines.items ≡ l.fn.lines.items ++ flat_map (row_block l.network l.message) (take l.row-index l.rows)
