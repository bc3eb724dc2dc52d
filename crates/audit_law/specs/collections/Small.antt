-- Numbers that leave room for sums of a few of them.
use Rattle.std.specs.Prelude.{◌<ℤ◌, ◌^◌, neg_ℤ, pos, ℤ}

-- a difference of two 64 bit numbers, or a mean of such
pub record IsSmall (x : ℤ) : Type 0 where
  pub low : neg_ℤ (pos (2 ^ 64)) <ℤ x
  pub high : x <ℤ pos (2 ^ 64)
