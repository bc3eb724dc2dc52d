-- How much of a file is taken.
use Rattle.std.specs.Prelude.{◌+◌, List, Option, ℕ}
use Rattle.tte_io.specs.Whole.{TakesAtMost, excess_limit}

-- octets of a file were taken, at most its limit and 4,096 beyond
abbrev pub TakesUpTo : ℕ → Option (List ℕ) → Option (List ℕ) → Type 0
TakesUpTo limit left after = TakesAtMost left after (limit + excess_limit)
