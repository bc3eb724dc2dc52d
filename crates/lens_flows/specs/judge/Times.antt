-- The first time of a kind.
use Rattle.std.specs.Prelude.{ℕ, ◌+◌, ◌<◌, ◌≤◌, Option, MatchOption}

-- no time later than the first and earlier than the second is so
abbrev pub NoneWithin : (ℕ → Type 0) → ℕ → ℕ → Type 0
NoneWithin IsSo after before = (t : ℕ) → after < t → t < before → IsSo t → ⊥

-- this time, later than `after` and up to `until`, is so, and none before
pub record IsFirstTime (IsSo : ℕ → Type 0) (after until time : ℕ) : Type 0 where
  pub later : after < time
  pub timely : time ≤ until
  pub is : IsSo time
  pub none_before : NoneWithin IsSo after time

-- the first such time, or none where there is none
abbrev pub TellsFirstTime : (ℕ → Type 0) → ℕ → ℕ → Option ℕ → Type 0
TellsFirstTime IsSo after until result =
    MatchOption result (NoneWithin IsSo after (until + 1)) (IsFirstTime IsSo after until)
