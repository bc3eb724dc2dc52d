-- How far adjustments, points and deviations may lie.
use Rattle.std.specs.Prelude.{◌^◌, ◌≤ℤ◌, neg_ℤ, pos, ℤ}

-- the number lies from -2^80 to 2^80, as each adjustment that a frame or a record gives
pub record IsWide (z : ℤ) : Type 0 where
  pub least : neg_ℤ (pos (2 ^ 80)) ≤ℤ z
  pub most : z ≤ℤ pos (2 ^ 80)

-- it lies from -2^81 to 2^81, as each local value
pub record IsLocal (z : ℤ) : Type 0 where
  pub least : neg_ℤ (pos (2 ^ 81)) ≤ℤ z
  pub most : z ≤ℤ pos (2 ^ 81)

-- it lies from -2^110 to 2^110, as each deviation from what is expected in a cycle of 64 bits
pub record IsFar (z : ℤ) : Type 0 where
  pub least : neg_ℤ (pos (2 ^ 110)) ≤ℤ z
  pub most : z ≤ℤ pos (2 ^ 110)
