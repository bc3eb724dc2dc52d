use Rattle.lens_overview.{proofs.LawCells.seen_by, specs.declared.shade.Shade.TheVariants.Blank}
use Rattle.std.{proofs.Common.{◌+◌, ◌≡◌, replicate, take}, specs.Prelude.fold}
use Rattle.lens_overview.proofs.cells.cells_of_flow.Given as goal

abbrev pub invariant-copies : goal.invariant-copies
invariant-copies l = l.each.items ≡ fold (seen_by l.own.vl l.device) (replicate (l.own.run.last + 1) Blank) (take l.change-index l.copies)
