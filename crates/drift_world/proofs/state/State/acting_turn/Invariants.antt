use Rattle.drift_world.proofs.{ActTurns.IsTurn, Words.◌-◌}
use Rattle.drift_world.proofs.state.State.acting_turn.Given as goal

abbrev pub invariant-acts : goal.invariant-acts
invariant-acts g l = IsTurn g.C.Clock.last_step g.C.Clock.reading g.M.Machine.stands l.fn.network l.fn.part l.fn.device l.fn.self l.self l.left l.acts

abbrev pub decreases-acts : goal.decreases-acts
decreases-acts g l = 260 - l.acts
