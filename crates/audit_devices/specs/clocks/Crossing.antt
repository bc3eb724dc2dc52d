-- How a clock crosses a value.
use Rattle.std.specs.Prelude.{◌<ℤ◌, ◌≤ℤ◌, ℤ}

-- right after the last change the clock was below the value, a unit of time ago it still was, and now it is not
pub record HasCrossed (at_change before now value : ℤ) : Type 0 where
  pub changed : at_change <ℤ value
  pub below : before <ℤ value
  pub reached : value ≤ℤ now
