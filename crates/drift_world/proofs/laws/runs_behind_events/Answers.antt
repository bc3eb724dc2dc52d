use Rattle.drift_world.proofs.EventRuns.{runs_behind_events}
use Rattle.drift_world.proofs.laws.runs_behind_events.Goals as goal

pub returns : goal.returns
returns g c = runs_behind_events g.C.Clock.fresh g.C.Clock.after_step g.C.Clock.reading g.M.Machine.stands
