use Rattle.std.specs.Prelude.{◌*ℤ◌, ◌+ℤ◌, ◌^◌, ◌≤ℤ◌, pos, ℕ, ℤ}
use Rattle.{sync_state.specs.declared.plan.SyncPlan.SyncPlan, tte_units.specs.Reading.{greatest_reading, least_reading}}

-- the cycle's length and the expected offset are within their ranges
pub record IsPlan (plan : SyncPlan) : Type 0 where
  pub shortest : pos (2 ^ 32) ≤ℤ plan.cycle_length.0
  pub longest : plan.cycle_length.0 ≤ℤ pos (2 ^ 40)
  pub earliest : least_reading ≤ℤ plan.expected.0
  pub latest : plan.expected.0 ≤ℤ greatest_reading

-- the local value at which the frame of cycle n is expected
abbrev pub expected_at : SyncPlan → ℕ → ℤ
expected_at plan n = (pos n *ℤ plan.cycle_length.0) +ℤ plan.expected.0
