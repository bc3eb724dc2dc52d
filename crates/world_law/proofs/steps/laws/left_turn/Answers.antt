use Rattle.world_law.proofs.steps.laws.left_turn.Goals as goal
use Rattle.world_law.proofs.steps_lemmas.turns.Turns.{left_turn}

pub returns : goal.returns
returns g c = left_turn g.C.Clock.reading g.M.Machine.stands
