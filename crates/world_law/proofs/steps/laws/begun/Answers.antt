use Rattle.world_law.proofs.steps.laws.begun.Goals as goal
use Rattle.world_law.proofs.steps_lemmas.steps.Passed.{begun}

pub returns : goal.returns
returns g c = begun g.C.Clock.reading g.M.Machine.stands
