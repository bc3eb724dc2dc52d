use Rattle.world_law.proofs.steps.laws.heard_turn.Goals as goal
use Rattle.world_law.proofs.steps_lemmas.turns.Turns.{heard_turn}

pub returns : goal.returns
returns g c = heard_turn g.C.Clock.reading g.M.Machine.stands
