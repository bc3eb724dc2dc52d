use Rattle.trace_text.proofs.EventsBack.{reads_back}
use Rattle.trace_text.proofs.laws.reads_back_law.Goals as goal

pub returns : goal.returns
returns c = reads_back
