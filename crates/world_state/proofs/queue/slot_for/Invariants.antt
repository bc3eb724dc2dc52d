use Rattle.{std.proofs.Common.take, world_state.specs.queue.Finding.NoSlotFor}
use Rattle.world_state.proofs.queue.slot_for.Given as goal

abbrev pub invariant-places : goal.invariant-places
invariant-places l = NoSlotFor (take l.slotted-index l.fn.places) l.fn.rank l.fn.cause
