-- Octets in front of zeros.
use Rattle.{net_plan.specs.Padding.IsPadded, std.proofs.Math.Seq.drop-append_seam}
use Rattle.std.proofs.{Common.{◌++◌, ◌≤◌, List, arith, drop, length, length-append, length-drop, replicate, ℕ}, lemmas.List.{drop-replicate, length-replicate}}

pub padded_front : (size : ℕ) (xs : List ℕ) → length xs ≤ size → IsPadded size (xs ++ drop (length xs) (replicate size 0)) (length xs)
padded_front size xs fits = grind (arith, length-append, drop, length, replicate, length-drop, length-replicate, drop-append_seam, drop-replicate)
