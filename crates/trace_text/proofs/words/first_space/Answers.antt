use Rattle.{memchr.specs.Find.is_byte, trace_text.{proofs.Finding.first_is_position, specs.Steps.space}}
use Rattle.trace_text.proofs.words.first_space.Goals as goal

pub returns-clause-place : goal.returns-clause-place
returns-clause-place c = first_is_position (is_byte space) c.args.text.now c.memchr.result c.memchr.ensures
