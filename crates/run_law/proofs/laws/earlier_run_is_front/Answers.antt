use Rattle.run_law.proofs.laws.earlier_run_is_front.Goals as goal
use Rattle.run_law.proofs.runs.NetworkRuns.{earlier_run_is_front}

pub returns : goal.returns
returns c = earlier_run_is_front
