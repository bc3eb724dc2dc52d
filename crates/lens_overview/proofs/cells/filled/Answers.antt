use Rattle.std.proofs.Common.{◌+◌, arith, replicate}
use Rattle.lens_overview.{proofs.LawCells.filled_by, specs.Cells.taken}
use Rattle.lens_overview.proofs.cells.filled.Goals as goal

pub returns : goal.returns
returns c =
    let test = c.all-test.false in
    filled_by (taken c.args.run.grid c.args.label) c.part_for-some.result.now c.args.run.news.now c.all.news-index
    (replicate (c.args.before + 1) c.args.start) c.all.cells.items (omega (arith, test)) c.all.invariant c.part_for-some.ensures
