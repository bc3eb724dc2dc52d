use Rattle.tte_audit.{proofs.Words.{◌++◌, ◌+◌, ◌≡◌, ◌≤◌, List, Note, length, ℕ}, specs.Swift.IsSought}
use Rattle.tte_audit.proofs.swift.seek.Given as goal

abbrev pub invariant-lines : goal.invariant-lines
invariant-lines l = record {
  begun : (front : List ℕ) × (l.report ≡ front ++ l.rest);
  told : (notes : List Note) × IsSought l.accepted l.report notes l.sought × (length notes + length l.rest ≤ length l.report);
}

abbrev pub decreases-lines : goal.decreases-lines
decreases-lines l = length l.rest
