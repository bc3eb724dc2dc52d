use Rattle.std.proofs.Common.{sym}
use Rattle.lens_overview.proofs.LawStrokes.{alike_differ}
use Rattle.lens_overview.proofs.cells.is_alike.Goals as goal

pub returns-then-cells-others : goal.returns-then-cells-others
returns-then-cells-others c = sym (alike_differ c.args.cells.now c.args.others.now c.if-cells-others.true)
