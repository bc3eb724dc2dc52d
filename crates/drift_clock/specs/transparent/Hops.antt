-- The way of a frame from the device that gives it, over links, to the device where it is permanent.
use Rattle.std.specs.{Int.abs_diff, Prelude.{◌*◌, ◌+◌, ◌-◌, ◌/◌, ◌^◌, ◌≡◌, ◌≤◌, All, List, length, sum_by, ℕ}}
use Rattle.drift_clock.specs.{ClockLaws.Measures, transparent.Points.Waits}

-- one link: how long the frame is held and what the device measures of it, the nominal wire, its jitter, and the delay
pub record Hop : Type 0 where
  pub hold : ℕ
  pub measured : ℕ
  pub wire : ℕ
  pub jitter : ℕ
  pub delay : ℕ

-- the hold is measured but for rho and a rounding of e at each end, and the delay is that of the wire but for its
-- jitter
pub record IsHop (rho e : ℕ) (h : Hop) : Type 0 where
  pub measures : Measures rho e h.hold h.measured
  pub least : h.wire ≤ h.delay
  pub most : h.delay ≤ h.wire + h.jitter

-- how long the frame is on its way
abbrev pub travel : List Hop → ℕ
travel hops = sum_by (λ h. h.hold + h.delay) hops

-- by how much its clock grows
abbrev pub growth : List Hop → ℕ
growth hops = sum_by (λ h. h.measured + h.wire) hops

-- the jitters, the drift over dmax, and the roundings at each hop, at the arrival and at the permanence
abbrev pub path_error : ℕ → ℕ → ℕ → List Hop → ℕ
path_error rho e dmax hops = sum_by (λ h. h.jitter) hops + 4 * rho * dmax / 10 ^ 9 + 8 * e * (length hops + 2)

-- a frame that is given at s with clock 0, arrives at t over at most eight hops and is permanent at q, is so dmax after
-- s, up to the path error
abbrev pub PermanentInTime : Type 0
PermanentInTime =
    (rho e dmax s t q a : ℕ) (hops : List Hop) → rho ≤ 1000000 → 1 ≤ e → length hops ≤ 8 → All (IsHop rho e) hops
    → growth hops ≤ dmax → t ≡ s + travel hops → t ≤ q → Waits rho e (dmax - growth hops) (q - t) a
    → abs_diff q (s + dmax) ≤ path_error rho e dmax hops
