use Rattle.{lens_overview.specs.Bars.greatest_of, std.proofs.Common.{◌≡◌, take}}
use Rattle.lens_overview.proofs.bars.greatest_of.Given as goal

abbrev pub invariant-all : goal.invariant-all
invariant-all l = l.greatest ≡ greatest_of (take l.news-index l.all)
