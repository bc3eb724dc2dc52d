use Rattle.tte_traces.proofs.Runs.{trace_answers_exist}
use Rattle.tte_traces.proofs.laws.trace_answers_exist.Goals as goal

pub returns : goal.returns
returns c = trace_answers_exist
