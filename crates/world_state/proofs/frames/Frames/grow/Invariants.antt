use Rattle.{std.proofs.Common.{◌+◌, ◌-◌, ◌≡◌}, world_state.specs.Frames.{AreQueued, frames_in}}
use Rattle.world_state.proofs.frames.Frames.grow.Given as goal

abbrev pub invariant-queues : goal.invariant-queues
invariant-queues l = AreQueued l.self-inside.queues.items × (frames_in l.self-inside.queues.items ≡ l.fn.self.items)

abbrev pub decreases-queues : goal.decreases-queues
decreases-queues l = l.device.0 + 1 - l.self-inside.queues.len
