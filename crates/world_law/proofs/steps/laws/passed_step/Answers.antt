use Rattle.world_law.proofs.steps.laws.passed_step.Goals as goal
use Rattle.world_law.proofs.steps_lemmas.steps.Passed.{passed_step}

pub returns : goal.returns
returns g c = passed_step g.C.Clock.reading g.M.Machine.stands
