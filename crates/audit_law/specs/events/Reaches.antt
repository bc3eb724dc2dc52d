-- When a clock first reaches a value.
use Rattle.std.specs.Prelude.{◌<ℤ◌, ◌≤◌, MatchOption, Option, pos, ℕ, ℤ}
use Rattle.drift_clock.specs.Reach.{IsReach}

-- the least time from `from` on, up to `until`, at which the reading is at least the value; none where it is less at
-- each of these times
abbrev pub IsFirstReach : (ℕ → ℕ) → ℕ → ℤ → ℕ → Option ℕ → Type 0
IsFirstReach reading from value until result =
    MatchOption result
    ((x : ℕ) → from ≤ x → x ≤ until → pos (reading x) <ℤ value)
    (λ time. IsReach reading (pos from) value (pos time) × (time ≤ until))
