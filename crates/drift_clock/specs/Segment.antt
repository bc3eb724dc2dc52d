-- A clock that counts exactly.
use Rattle.std.specs.Prelude.{◌*◌, ◌+◌, ◌-◌, ◌^◌, ◌≤◌, pos, unsigned_abs, ℕ, ℤ}
use Rattle.drift_clock.specs.Counts.{gain, rounded}

-- the count of so many whole units and parts
abbrev pub counted : ℕ → ℕ → ℕ
counted whole part = 10 ^ 9 * whole + part

-- a grain, the count at the last rate step, its time, and the rate since
pub record Segment : Type 0 where
  pub grain : ℕ
  pub at : ℕ
  pub count : ℕ
  pub rate : ℤ

-- nothing is counted at time 0, and the rate is 0
abbrev pub fresh_segment : ℕ → Segment
fresh_segment grain = record { grain = grain; at = 0; count = 0; rate = pos 0 }

-- what it has counted at t
abbrev pub segment_count : Segment → ℕ → ℕ
segment_count c t = c.count + gain c.rate * (t - c.at)

-- it goes on from its count at t, at another rate
abbrev pub stepped_segment : Segment → ℕ → ℤ → Segment
stepped_segment c t rate = record { grain = c.grain; at = t; count = segment_count c t; rate = rate }

-- its reading at t
abbrev pub segment_reading : Segment → ℕ → ℕ
segment_reading c t = rounded c.grain (segment_count c t)

-- a grain, a time and a rate in their ranges, and no more counted than the fastest clock counts
pub record IsSegment (grain at count : ℕ) (rate : ℤ) : Type 0 where
  pub some_grain : 1 ≤ grain
  pub fine : grain ≤ 2 ^ 20
  pub time : at ≤ 2 ^ 60
  pub slow : unsigned_abs rate ≤ 1000000
  pub bound : count ≤ 1001000000 * at
