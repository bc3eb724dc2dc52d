use Rattle.{std.proofs.Common.{◌+◌, ◌-◌, ◌≡◌}, world_state.specs.Shelves.{AreShelved, frames_in}}
use Rattle.world_state.proofs.shelves.Shelves.grow.Given as goal

abbrev pub invariant-shelves : goal.invariant-shelves
invariant-shelves l = AreShelved l.self-inside.shelves.items × (frames_in l.self-inside.shelves.items ≡ l.fn.self.items)

abbrev pub decreases-shelves : goal.decreases-shelves
decreases-shelves l = l.device.0 + 1 - l.self-inside.shelves.len
