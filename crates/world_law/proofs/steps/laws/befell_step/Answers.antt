use Rattle.world_law.proofs.steps.laws.befell_step.Goals as goal
use Rattle.world_law.proofs.steps_lemmas.befalling.Befell.{befell_step}

pub returns : goal.returns
returns g c = befell_step g.C.Clock.reading g.M.Machine.stands
