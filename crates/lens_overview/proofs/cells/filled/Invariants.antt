use Rattle.{lens_overview.specs.Cells.taken, std.{proofs.Common.{◌+◌, ◌≡◌, replicate, take}, specs.Prelude.fold}}
use Rattle.lens_overview.proofs.cells.filled.Given as goal

abbrev pub invariant-all : goal.invariant-all
invariant-all l = l.cells.items ≡ fold (taken l.run.grid l.label) (replicate (l.before + 1) l.fn.start) (take l.news-index l.some)
