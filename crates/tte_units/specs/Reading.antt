-- The bounds of readings, points and values of a local clock.
use Rattle.std.specs.Prelude.{◌+◌, ◌^◌, neg_ℤ, pos, ℕ, ℤ}

-- how far from 0 a reading may lie
abbrev pub reading_limit : ℕ
reading_limit = 2 ^ 61 + 2 ^ 58

-- the least that a reading may be
abbrev pub least_reading : ℤ
least_reading = neg_ℤ (pos reading_limit)

-- the greatest that a reading may be
abbrev pub greatest_reading : ℤ
greatest_reading = pos reading_limit
