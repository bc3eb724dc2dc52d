use Rattle.std.{proofs.Common.{sym}}
use Rattle.world_state.proofs.Queues.{least_is}
use Rattle.world_state.proofs.timing.least_point.Goals as goal

pub returns-in-Some : goal.returns-in-Some
returns-in-Some c =
    least_is
    (rw (sym c.in-Some.ensures.is) at c.in-Some.ensures.first)
