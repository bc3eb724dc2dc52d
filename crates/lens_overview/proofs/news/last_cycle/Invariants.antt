use Rattle.{lens_overview.specs.News.last_cycle, std.proofs.Common.{◌≡◌, take}}
use Rattle.lens_overview.proofs.news.last_cycle.Given as goal

abbrev pub invariant-all : goal.invariant-all
invariant-all l = l.last ≡ last_cycle (take l.news-index l.all)
