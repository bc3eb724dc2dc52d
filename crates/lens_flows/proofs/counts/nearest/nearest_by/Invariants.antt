use Rattle.std.proofs.Common.{pos}
use Rattle.lens_flows.{proofs.counts_lemmas.Telling.IsInsideBefore, specs.counts.Nearest.TellsLeast}
use Rattle.lens_flows.proofs.counts.nearest.nearest_by.Given as goal

abbrev pub invariant-rows : goal.invariant-rows
invariant-rows l = TellsLeast (IsInsideBefore l.network l.flow l.link (pos l.place) l.row) l.nearest
