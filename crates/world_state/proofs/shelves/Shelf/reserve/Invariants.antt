use Rattle.{std.proofs.Common.{◌+◌, ◌-◌}, world_state.specs.Shelves.IsLengthened}
use Rattle.world_state.proofs.shelves.Shelf.reserve.Given as goal

abbrev pub invariant-places : goal.invariant-places
invariant-places l = IsLengthened l.fn.self l.self-inside.places.items

abbrev pub decreases-places : goal.decreases-places
decreases-places l = l.vl.0 + 1 - l.self-inside.places.len
