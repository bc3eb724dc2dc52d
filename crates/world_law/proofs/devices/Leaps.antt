-- A clock that keeps the clock laws makes no leap.
use Rattle.{drift_clock.specs.ClockLaws.KeepsClockLaws, std.specs.Int.abs_diff, world_law.proofs.Words.{◌*◌, ◌+◌, ◌-◌, ◌<◌, ◌^◌, ◌≡◌, ◌≤◌, arith, ℕ}}

small : (seen rho grain d : ℕ) → rho ≤ 1000000 → grain ≤ 2 ^ 20 → seen ≤ 1 + d → 10 ^ 9 * d ≤ rho * 1 + 2 * grain * 10 ^ 9 → seen < 2 ^ 22
small seen rho grain d slow fine at measures = omega arith

-- between two units of time it goes on by less than 2^22 units
pub no_leap : (rho grain : ℕ) (reading : ℕ → ℕ) → rho ≤ 1000000 → grain ≤ 2 ^ 20 → KeepsClockLaws rho grain reading → (t : ℕ)
    → reading (t + 1) < reading t + 2 ^ 22
no_leap rho grain reading slow fine laws t =
    let one : t + 1 - t ≡ 1 = omega arith in
    let seen = reading (t + 1) - reading t in
    let measures = rw one at (laws.drifts t (t + 1) (omega arith)) in
    let at : seen ≤ 1 + abs_diff seen 1 = omega arith in
    omega arith
