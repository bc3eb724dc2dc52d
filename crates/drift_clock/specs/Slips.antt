-- How far a clock is off while it goes on by a value.
use Rattle.std.specs.{Int.abs_diff, Prelude.{◌*◌, ◌+◌, ◌-◌, ◌≤◌, pos, ℕ}}
use Rattle.{drift_clock.specs.{ClockLaws.KeepsClockLaws, Reach.IsReach}, tte_units.specs.Slip.slip_of}

-- the slip over v of a clock of this grain: each of the four roundings is one of a grain
abbrev pub grained_slip : ℕ → ℕ → ℕ → ℕ
grained_slip rho grain v = slip_of rho v + 4 * (grain - 1)

-- where readings that keep the clock laws, and are at most u at first, reach u at s and u + v at t, t is s + v up to
-- the slip
abbrev pub SlipsLittle : Type 0
SlipsLittle =
    (rho grain : ℕ) (reading : ℕ → ℕ) (from u v s t : ℕ) → rho ≤ 1000000 → 1 ≤ grain → KeepsClockLaws rho grain reading
    → reading from ≤ u → IsReach reading (pos from) (pos u) (pos s) → IsReach reading (pos from) (pos (u + v)) (pos t)
    → abs_diff t (s + v) ≤ grained_slip rho grain v
