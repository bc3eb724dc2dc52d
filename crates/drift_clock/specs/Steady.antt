-- A clock that shows world time.
use Rattle.std.specs.Prelude.{◌*◌, ◌/◌, ◌≡◌, List, ℕ, ℤ}
use Rattle.drift_clock.specs.{RateSteps.RateStep, Readings.reading_at}

-- the time t, rounded down to a multiple of the grain
abbrev pub steady_reading : ℕ → ℕ → ℕ
steady_reading grain t = grain * (t / grain)

-- a clock of any grain, whatever its steps, reads the time
abbrev pub ReadsTime : {C : Type 0} → (ℕ → C) → (C → ℕ → ℤ → C) → (C → ℕ → ℕ) → Type 0
ReadsTime fresh after_step reading =
    (grain : ℕ) (steps : List RateStep) (t : ℕ) → reading_at after_step reading (fresh grain) steps t ≡ steady_reading
    grain t
