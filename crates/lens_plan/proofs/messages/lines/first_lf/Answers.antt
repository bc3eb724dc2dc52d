use Rattle.{memchr.specs.Find.is_byte, trace_text.proofs.Finding.first_is_position}
use Rattle.lens_plan.proofs.messages.lines.first_lf.Goals as goal

pub returns-clause-place : goal.returns-clause-place
returns-clause-place c = first_is_position (is_byte 10) c.args.text.now c.memchr.result c.memchr.ensures
