-- What every clock keeps, whatever the steps of its rate.
use Rattle.std.specs.{Int.abs_diff, Prelude.{◌*◌, ◌+◌, ◌-◌, ◌^◌, ◌≡◌, ◌≤◌, All, List, ℕ, ℤ}}
use Rattle.drift_clock.specs.{RateSteps.{IsHistory, RateStep}, Readings.{reading_at, value_after}}

-- in `real` units of time a reading grew by `seen`: the same, but for rho parts in 10^9 and a grain at each end
abbrev pub Measures : ℕ → ℕ → ℕ → ℕ → Type 0
Measures rho grain real seen = 10 ^ 9 * abs_diff seen real ≤ rho * real + 2 * grain * 10 ^ 9

-- the clock laws: a reading never falls, and between any two times it measures the time
pub record KeepsClockLaws (rho grain : ℕ) (reading : ℕ → ℕ) : Type 0 where
  pub never_falls : (s t : ℕ) → s ≤ t → reading s ≤ reading t
  pub drifts : (s t : ℕ) → s ≤ t → Measures rho grain (t - s) (reading t - reading s)

-- from its last step on, what the steps make of a clock reads what the clock reads under these steps
abbrev pub ReadsItsSteps : {C : Type 0} → (ℕ → C) → (C → ℕ → ℤ → C) → (C → ℕ → ℕ) → Type 0
ReadsItsSteps fresh after_step reading =
    (grain : ℕ) (steps : List RateStep) (t : ℕ) → All (λ s. s.at ≤ t) steps
    → reading_at after_step reading (fresh grain) steps t ≡ reading (value_after after_step (fresh grain) steps) t

-- a clock of any grain keeps the clock laws, whatever its steps to rates within rho
abbrev pub AlwaysKeepsClockLaws : {C : Type 0} → (ℕ → C) → (C → ℕ → ℤ → C) → (C → ℕ → ℕ) → Type 0
AlwaysKeepsClockLaws fresh after_step reading =
    (rho grain : ℕ) (steps : List RateStep) → rho ≤ 1000000 → 1 ≤ grain → IsHistory rho steps
    → KeepsClockLaws rho grain (reading_at after_step reading (fresh grain) steps)

-- a clock of any grain reads 0 at time 0, whatever its steps
abbrev pub AlwaysBeginsAtZero : {C : Type 0} → (ℕ → C) → (C → ℕ → ℤ → C) → (C → ℕ → ℕ) → Type 0
AlwaysBeginsAtZero fresh after_step reading =
    (grain : ℕ) (steps : List RateStep) → reading_at after_step reading (fresh grain) steps 0 ≡ 0
