use Rattle.world_law.proofs.steps.laws.ripened_turn.Goals as goal
use Rattle.world_law.proofs.steps_lemmas.turns.Turns.{ripened_turn}

pub returns : goal.returns
returns g c = ripened_turn g.C.Clock.reading g.M.Machine.stands
