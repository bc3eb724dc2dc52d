use Rattle.world_law.proofs.steps.laws.applied_step.Goals as goal
use Rattle.world_law.proofs.steps_lemmas.steps.Applied.{applied_step}

pub returns : goal.returns
returns g c = applied_step g.C.Clock.reading g.M.Machine.stands
