use Rattle.world_law.proofs.laws.acts_grow.Goals as goal
use Rattle.world_law.proofs.growing.Growing.{acts_grow}

pub returns : goal.returns
returns c = acts_grow
