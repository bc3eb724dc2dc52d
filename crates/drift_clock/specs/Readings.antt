-- What a clock reads under the steps of its rate.
use Rattle.std.specs.Prelude.{List, fold, ℕ, ℤ}
use Rattle.drift_clock.specs.RateSteps.{RateStep, up_to}

-- what the steps make of a clock, one after the other
abbrev pub value_after : {C : Type 0} → (C → ℕ → ℤ → C) → C → List RateStep → C
value_after after_step clock steps = fold (λ c s. after_step c s.at s.rate) clock steps

-- the reading at t: that of the value which the steps up to t make of the clock
abbrev pub reading_at : {C : Type 0} → (C → ℕ → ℤ → C) → (C → ℕ → ℕ) → C → List RateStep → ℕ → ℕ
reading_at after_step reading clock steps t = reading (value_after after_step clock (up_to t steps)) t
