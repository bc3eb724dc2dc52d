use Rattle.world_law.proofs.laws.run_goes_on_by_event.Goals as goal
use Rattle.world_law.proofs.runs.Worlds.{run_goes_on_by_event}

pub returns : goal.returns
returns c = run_goes_on_by_event
