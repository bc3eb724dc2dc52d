use Rattle.world_law.proofs.steps.laws.acted_turn.Goals as goal
use Rattle.world_law.proofs.steps_lemmas.turns.Turns.{acted_turn}

pub returns : goal.returns
returns g c = acted_turn g.C.Clock.reading g.M.Machine.stands
