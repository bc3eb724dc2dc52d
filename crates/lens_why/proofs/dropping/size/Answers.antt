use Rattle.std.proofs.Common.{◌∙◌, sym}
use Rattle.lens_why.proofs.Grounded.{size_none, size_some}
use Rattle.run_law.specs.records.Happenings.{numbered}
use Rattle.lens_why.proofs.dropping.size.Goals as goal

pub returns-in-Some : goal.returns-in-Some
returns-in-Some c network befallen hs k = size_some (numbered hs c.args.number) c.in-Some.heading (sym (c.heading.ensures network befallen hs k) ∙ c.in-Some.is)

pub returns-in-None : goal.returns-in-None
returns-in-None c network befallen hs k = size_none (numbered hs c.args.number) (sym (c.heading.ensures network befallen hs k) ∙ c.in-None.is)
