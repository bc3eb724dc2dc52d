use Rattle.std.proofs.Common.{◌∙◌, sym}
use Rattle.lens_why.proofs.causes.record_at.Goals as goal

pub returns-in-Some : goal.returns-in-Some
returns-in-Some c notes end of = sym (c.in-Some.ensures notes end of)

pub returns-in-None : goal.returns-in-None
returns-in-None c notes end of = (c.count.ensures ∙ c.requires.read.counted notes end of, sym (c.in-None.ensures notes end of))
