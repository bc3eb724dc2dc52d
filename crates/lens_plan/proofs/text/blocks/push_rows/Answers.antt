use Rattle.lens_plan.{proofs.Plans.pieces_more, specs.text.Blocks.row_block}
use Rattle.lens_plan.proofs.text.blocks.push_rows.Goals as goal

pub rows-preserved : goal.rows-preserved
rows-preserved c =
    pieces_more (row_block c.args.network.now c.args.message.now) c.args.lines.now.items c.rows.lines.items c.args.rows.now c.rows.row-index _
    c.rows-test.true c.rows.invariant c.in-Ok.ensures
