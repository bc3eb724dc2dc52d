-- What callers see of a sink that does not tell what was written.
use Rattle.std.specs.Prelude.{ℕ}

-- its counts
pub record PutCounts : Type 0 where
  -- the count of the calls
  pub puts : ℕ
  -- the count of the calls that failed
  pub faults : ℕ
