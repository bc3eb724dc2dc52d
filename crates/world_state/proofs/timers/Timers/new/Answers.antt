use Rattle.world_state.proofs.WorldSteps.{timers_made}
use Rattle.world_state.proofs.timers.Timers.new.Goals as goal

pub returns : goal.returns
returns c = rw c.in_ok-keys.ensures (timers_made c.args.slots)
