use Rattle.run_law.proofs.laws.run_is_one.Goals as goal
use Rattle.run_law.proofs.runs.NetworkRuns.{run_is_one}

pub returns : goal.returns
returns c = run_is_one
