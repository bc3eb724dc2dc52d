use Rattle.tte_audit.proofs.{Sweeping.IsOnWay}
use Rattle.tte_audit.proofs.{Words.{◌+◌, ◌≤◌, AreEventsRight, EndWith, List, Note, Units, events_of, length}}
use Rattle.tte_audit.proofs.swift.swept.Given as goal

abbrev pub invariant-records : goal.invariant-records
invariant-records l = record {
  notes : List Note;
  end : Units;
  right : AreEventsRight l.network notes;
  ends : EndWith (events_of notes) end;
  way : IsOnWay l.network l.report notes end l.left.places.now l.records l.left.octets.now l.sweep;
  few : l.records + length l.left.octets.now ≤ length l.report;
}

abbrev pub decreases-records : goal.decreases-records
decreases-records l = length l.left.octets.now
