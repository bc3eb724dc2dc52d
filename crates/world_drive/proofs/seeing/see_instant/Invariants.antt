use Rattle.world_drive.proofs.Drives.{HasSeenMore, PutsSoFar}
use Rattle.world_drive.proofs.{Words.{◌+◌, ◌≡◌, IsUnderwayAt, List, NoteValue, Some, Start, amount, left_of, told_by}}
use Rattle.net_plan.specs.declared.event.Event.{Event as EventValue}
use Rattle.world_drive.proofs.seeing.see_instant.Given as goal

abbrev pub invariant-notes : goal.invariant-notes
invariant-notes g l = record {
  sees : (events : List EventValue) (notes : List NoteValue) (old : Start _) → IsUnderwayAt l.network l.fn.world events notes l.time
      → g.O.Observer.sees l.network events notes (Some (amount l.time)) old (told_by g.K.Sink l.fn.out) l.fn.observer
      → HasSeenMore g.O.Observer.sees l.network events notes (Some (amount l.time)) (amount l.time + 1) l.world l.observer old (told_by g.K.Sink l.out);
  now : l.world.now ≡ l.fn.world.now;
  puts : PutsSoFar g.K.Sink l.fn.out l.out;
}

abbrev pub decreases-notes : goal.decreases-notes
decreases-notes g l = left_of l.world
