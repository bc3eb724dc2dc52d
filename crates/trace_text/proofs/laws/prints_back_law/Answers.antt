use Rattle.trace_text.proofs.EventsBack.{prints_back}
use Rattle.trace_text.proofs.laws.prints_back_law.Goals as goal

pub returns : goal.returns
returns c = prints_back
