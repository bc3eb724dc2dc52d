-- The point at which a frame is permanent.
use Rattle.std.specs.Prelude.{◌*◌, ◌+ℤ◌, ◌+◌, ◌-ℤ◌, ◌-◌, ◌≤◌, pos, ℕ, ℤ}
use Rattle.drift_clock.specs.{ClockLaws.{KeepsClockLaws, Measures}, Reach.IsReach}

-- the reading at arrival, later by what the clock lacks of dmax
abbrev pub point_of : ℤ → ℕ → ℤ → ℤ
point_of reading clock dmax = reading +ℤ (dmax -ℤ pos clock)

-- a frame that arrives at t with this clock is permanent at q: the first time at which the reading is at least its
-- point
abbrev pub IsPermanent : (ℕ → ℕ) → ℕ → ℕ → ℕ → ℕ → Type 0
IsPermanent reading dmax clock t q = IsReach reading (pos t) (point_of (pos (reading t)) clock (pos dmax)) (pos q)

-- in `wait` units of time a reading advances by what is lacking, and no more than two roundings of e beyond
pub record Waits (rho e lacking wait advance : ℕ) : Type 0 where
  pub least : lacking ≤ advance
  pub most : advance ≤ lacking + 2 * e
  pub measures : Measures rho e wait advance

-- by a clock that keeps the clock laws a frame waits for what its own clock lacks of dmax
abbrev pub WaitsForPoint : Type 0
WaitsForPoint =
    (rho grain dmax clock t q : ℕ) (reading : ℕ → ℕ) → rho ≤ 1000000 → KeepsClockLaws rho grain reading → clock ≤ dmax
    → IsPermanent reading dmax clock t q → (t ≤ q) × Waits rho grain (dmax - clock) (q - t) (reading q - reading t)
