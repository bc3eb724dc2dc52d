use Rattle.{lens_overview.specs.Parts.is_of, std.{proofs.Common.{◌≡◌, take}, specs.Prelude.filter}}
use Rattle.lens_overview.proofs.parts.part_of.Given as goal

abbrev pub invariant-all : goal.invariant-all
invariant-all l = l.some.items ≡ filter (is_of l.part) (take l.news-index l.all)
