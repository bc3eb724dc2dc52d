-- The lines of a text.
use Rattle.lens_plan.specs.messages.Lines.{is_lf, lines_of}
use Rattle.trace_text.proofs.Splitting.{PartedAt, parted}
use Rattle.std.proofs.Common.{◌+◌, ◌∷◌, ◌≡◌, List, None, Some, [], drop, take}
use Rattle.std.{proofs.Common.ℕ, specs.{Prelude.position}}

pub lines_parted : (text : List ℕ) (i : ℕ) → position is_lf text ≡ Some i → lines_of text ≡ take i text ∷ lines_of (drop (i + 1) text)
lines_parted text i e = let h : PartedAt is_lf text (position is_lf text) = parted is_lf text in rw e at h

pub lines_whole : (text : List ℕ) → position is_lf text ≡ None → lines_of text ≡ text ∷ []
lines_whole text e = let h : PartedAt is_lf text (position is_lf text) = parted is_lf text in rw e at h
