use Rattle.net_plan.specs.declared.event.Event.{Event as EventValue}
use Rattle.run_law.specs.declared.note.Note.{Note as NoteValue}
use Rattle.world_drive.proofs.Drives.{PutsSoFar}
use Rattle.tte_observers.proofs.stamps_lemmas.Words.{◌≡◌, IsAtLine, List, PutsLines, line_at, lines_by_first, shown_as, told_by}
use Rattle.tte_observers.proofs.stamps.stamper.Stamper.put_stamps.Given as goal

abbrev pub invariant-devices : goal.invariant-devices
invariant-devices g l = record {
  stamps : (before : List EventValue) (event : EventValue) (notes : List NoteValue) → IsAtLine l.network l.world l.number before event notes
      → PutsLines (lines_by_first l.fn.self.granule l.network (line_at l.network before event notes) l.place)
      (shown_as (told_by g.K.Sink l.fn.out)) (shown_as (told_by g.K.Sink l.out));
  puts : PutsSoFar g.K.Sink l.fn.out l.out;
  granule : l.self.granule ≡ l.fn.self.granule;
}
