use Rattle.world_law.proofs.steps.laws.acts_bring_few.Goals as goal
use Rattle.world_law.proofs.steps_lemmas.growing.Repeating.{acts_bring_few}

pub returns : goal.returns
returns c = acts_bring_few
