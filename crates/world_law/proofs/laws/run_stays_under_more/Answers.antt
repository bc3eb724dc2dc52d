use Rattle.world_law.proofs.laws.run_stays_under_more.Goals as goal
use Rattle.world_law.proofs.runs.Foremost.{run_stays_under_more}

pub returns : goal.returns
returns c = run_stays_under_more
