use Rattle.drift_world.{proofs.Turning.IsOnward, specs.Nearing.distance}
use Rattle.drift_world.proofs.state.State.next.Given as goal

abbrev pub invariant-turns : goal.invariant-turns
invariant-turns g l = IsOnward g.C.Clock.last_step g.C.Clock.reading g.M.Machine.stands l.network l.fn.self l.self l.until

abbrev pub decreases-turns : goal.decreases-turns
decreases-turns g l = distance l.network l.until l.self
