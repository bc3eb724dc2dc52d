use Rattle.tte_audit.proofs.Words.{◌+◌, ◌≤◌, AreTold, BeginsWith, List, Note, length}
use Rattle.tte_audit.proofs.passes.read_events.Given as goal

abbrev pub invariant-lines : goal.invariant-lines
invariant-lines l = record {
  begun : (notes : List Note) × BeginsWith l.accepted l.report notes l.rest × AreTold l.accepted notes l.told;
  few : l.told.records + length l.rest ≤ length l.report;
}

abbrev pub decreases-lines : goal.decreases-lines
decreases-lines l = length l.rest
