use Rattle.world_law.proofs.laws.due_is_sourced.Goals as goal
use Rattle.world_law.proofs.runs.Worlds.{sourced}

pub returns : goal.returns
returns c = sourced
