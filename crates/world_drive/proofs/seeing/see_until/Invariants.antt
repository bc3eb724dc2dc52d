use Rattle.net_plan.specs.declared.event.Event.{Event as EventValue}
use Rattle.world_drive.proofs.{Drives.{HasSeenMore, PutsSoFar}, Earlier.IsNearing}
use Rattle.world_drive.proofs.Words.{◌≡◌, IsAsked, List, None, NoteValue, StandsExact, Start, amount, false, left_of}
use Rattle.world_drive.proofs.Words.{told_by}
use Rattle.world_drive.proofs.seeing.see_until.Given as goal

abbrev pub invariant-notes : goal.invariant-notes
invariant-notes g l = record {
  sees : (events : List EventValue) (notes : List NoteValue) (old : Start _) → StandsExact l.network l.fn.world events notes
      → g.O.Observer.sees l.network events notes None old (told_by g.K.Sink l.fn.out) l.fn.observer
      → HasSeenMore g.O.Observer.sees l.network events notes None (amount l.until) l.world l.observer old (told_by g.K.Sink l.out);
  asked : IsAsked l.world l.until;
  way : l.fn.world.ended ≡ false → IsNearing l.fn.world l.world l.until;
  puts : PutsSoFar g.K.Sink l.fn.out l.out;
}

abbrev pub decreases-notes : goal.decreases-notes
decreases-notes g l = left_of l.world
