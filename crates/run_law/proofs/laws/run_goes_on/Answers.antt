use Rattle.run_law.proofs.laws.run_goes_on.Goals as goal
use Rattle.run_law.proofs.runs.NetworkRuns.{run_goes_on}

pub returns : goal.returns
returns c = run_goes_on
