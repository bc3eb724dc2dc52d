-- When a clock reaches a value.
use Rattle.std.specs.Prelude.{◌<ℤ◌, ◌≤ℤ◌, pos, unsigned_abs, ℕ, ℤ}

-- t is the least time from `from` on at which the reading is at least v
pub record IsReach (reading : ℕ → ℕ) (from v t : ℤ) : Type 0 where
  pub from_on : from ≤ℤ t
  pub reached : v ≤ℤ pos (reading (unsigned_abs t))
  pub not_before : (x : ℕ) → from ≤ℤ pos x → pos x <ℤ t → pos (reading x) <ℤ v
