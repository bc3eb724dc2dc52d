use Rattle.world_law.proofs.laws.nothing_settled_is_all.Goals as goal
use Rattle.world_law.proofs.runs.Worlds.{nothing_settled_is_all}

pub returns : goal.returns
returns c = nothing_settled_is_all
