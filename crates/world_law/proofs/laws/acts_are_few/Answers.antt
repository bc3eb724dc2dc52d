use Rattle.world_law.proofs.laws.acts_are_few.Goals as goal
use Rattle.world_law.proofs.growing.FewActs.{acts_are_few}

pub returns : goal.returns
returns c = acts_are_few
