use Rattle.world_law.proofs.steps.laws.clock_turn.Goals as goal
use Rattle.world_law.proofs.steps_lemmas.turns.Turns.{clock_turn}

pub returns : goal.returns
returns g c = clock_turn g.C.Clock.reading g.M.Machine.stands
