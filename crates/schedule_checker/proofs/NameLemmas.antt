-- Names are equal where their octets in place are.
use Rattle.std.{proofs.{Common.{◌&&◌, ◌∙◌, ◌≡◌, Bool, List, ap, eqb, length, sym, take, ℕ}, Math.Seq.take-append_seam}, specs.Bool.Decides}
use Rattle.std.{proofs.lemmas.{Slice.Eq.bytes_eq-Decides}, specs.Cmp.Lexicographic.pointwise}
use Rattle.net_plan.specs.Padding.{padded}
use Rattle.std.proofs.Common.{arith}

-- what `==` computes at two names
abbrev pub same_padded : ℕ → List ℕ → List ℕ → Bool
same_padded size xs ys = pointwise eqb (padded size xs) (padded size ys) && eqb (length xs) (length ys)

-- names of one length that are equal with zeros behind them are equal
one_text : (size : ℕ) (xs ys : List ℕ) → padded size xs ≡ padded size ys → length xs ≡ length ys → xs ≡ ys
one_text size xs ys same long = sym (take-append_seam xs _) ∙ ap (take (length xs)) same ∙
    (rw long (take-append_seam ys _))

-- `==` decides whether names are equal
pub decides_name : (size : ℕ) (xs ys : List ℕ) (r : Bool) → r ≡ same_padded size xs ys → Decides r (xs ≡ ys)
decides_name size xs ys r e =
    search (arith, padded, bytes_eq-Decides, one_text)
