-- The steps of a clock's rate.
use Rattle.std.specs.{List.Sorted.IsNonDecreasingBy, Prelude.{◌≤◌, All, List, filter, nat_le, unsigned_abs, ℕ, ℤ}}

-- from a time on the clock has this rate
pub record RateStep : Type 0 where
  pub at : ℕ
  pub rate : ℤ

-- steps in the order of time, each to a rate of magnitude at most rho
pub record IsHistory (rho : ℕ) (steps : List RateStep) : Type 0 where
  pub in_order : IsNonDecreasingBy (λ s. s.at) steps
  pub within : All (λ s. unsigned_abs s.rate ≤ rho) steps

-- the steps up to t
abbrev pub up_to : ℕ → List RateStep → List RateStep
up_to t steps = filter (λ s. nat_le s.at t) steps
