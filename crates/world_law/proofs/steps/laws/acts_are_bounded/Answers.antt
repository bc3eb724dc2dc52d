use Rattle.world_law.proofs.steps.laws.acts_are_bounded.Goals as goal
use Rattle.world_law.proofs.steps_lemmas.growing.Repeating.{acts_are_bounded}

pub returns : goal.returns
returns g c = acts_are_bounded g.C.Clock.reading g.M.Machine.stands
