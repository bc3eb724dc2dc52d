use Rattle.drift_world.proofs.Timings.{AreSetTo}
use Rattle.drift_world.proofs.state.State.rekey_all.Given as goal

abbrev pub invariant-loop-device : goal.invariant-loop-device
invariant-loop-device g l = AreSetTo g.C.Clock.reading g.M.Machine.stands l.fn.network l.device l.fn.self l.self
