use Rattle.{lens_overview.specs.Bars.raised, std.{proofs.Common.{◌≡◌, None, replicate, take}, specs.Prelude.fold}}
use Rattle.lens_overview.proofs.bars.bars_of.Given as goal

abbrev pub invariant-all : goal.invariant-all
invariant-all l = l.bars.items ≡ fold (raised l.run.grid) (replicate l.run.grid.columns None) (take l.news-index l.run.news.now)
