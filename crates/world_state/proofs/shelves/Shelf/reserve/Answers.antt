use Rattle.world_state.proofs.Placings.{lengthened}
use Rattle.world_state.proofs.shelves.Shelf.reserve.Goals as goal

pub places-preserved : goal.places-preserved
places-preserved c = lengthened _ c.places.invariant c.push.ensures.items
