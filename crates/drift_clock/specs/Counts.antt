-- What an oscillator counts, in parts of 10^9 of a unit.
use Rattle.std.specs.Prelude.{◌*◌, ◌+ℤ◌, ◌+◌, ◌-◌, ◌/◌, ◌^◌, ◌∷◌, ◌≡◌, ◌≤◌, List, [], pos, sum_by, unsigned_abs, ℕ, ℤ}
use Rattle.drift_clock.specs.{RateSteps.{RateStep, up_to}, Readings.reading_at}

-- what is counted in one unit of time: 10^9 and the rate
abbrev pub gain : ℤ → ℕ
gain rate = unsigned_abs (pos (10 ^ 9) +ℤ rate)

-- a stretch of time at one rate
pub record Stretch : Type 0 where
  pub rate : ℤ
  pub units : ℕ

-- the stretches of time from `from` to t: at `rate` up to the first step, then at each step's rate up to the next
abbrev pub stretches : ℕ → ℤ → List RateStep → ℕ → List Stretch
stretches from rate [] t = record { rate = rate; units = t - from } ∷ []
stretches from rate (s ∷ steps) t = record { rate = rate; units = s.at - from } ∷ stretches s.at s.rate steps t

-- the count at t: the sum of the gain times the length, over the stretches from time 0 and rate 0 on
abbrev pub count_of : List RateStep → ℕ → ℕ
count_of steps t = sum_by (λ s. gain s.rate * s.units) (stretches 0 (pos 0) (up_to t steps) t)

-- a count as a reading: rounded down to whole grains
abbrev pub rounded : ℕ → ℕ → ℕ
rounded grain count = grain * (count / (grain * 10 ^ 9))

-- in d units of time a count went from a to b, by 10^9 a unit but for rho
pub record Advances (rho d a b : ℕ) : Type 0 where
  pub least : a + 10 ^ 9 * d ≤ b + rho * d
  pub most : b ≤ a + 10 ^ 9 * d + rho * d

-- a clock of any grain, whatever its steps, reads its count in whole grains
abbrev pub ReadsCount : {C : Type 0} → (ℕ → C) → (C → ℕ → ℤ → C) → (C → ℕ → ℕ) → Type 0
ReadsCount fresh after_step reading =
    (grain : ℕ) (steps : List RateStep) (t : ℕ) → reading_at after_step reading (fresh grain) steps t ≡ rounded grain
    (count_of steps t)
