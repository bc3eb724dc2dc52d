use Rattle.world_law.proofs.laws.first_settled_is_next.Goals as goal
use Rattle.world_law.proofs.runs.Worlds.{first_settled_is_next}

pub returns : goal.returns
returns c = first_settled_is_next
