-- A clock that shows world time keeps the laws of a clock.
use Rattle.std.proofs.{Common.{ap, arith, suc, sym, zero}, Math.Nat.{div-eq_of_lt-le, lt-mul-div-succ, mul-div-le}}
use Rattle.std.specs.Prelude.{◌*◌, ◌+◌, ◌-◌, ◌/◌, ◌<◌, ◌^◌, ◌≡◌, ◌≤◌, ℕ}
use Rattle.drift_clock.specs.{Counts.{Advances, rounded}, Steady.steady_reading}

-- the count of the time advances rightly
pub time_advances : (rho s t : ℕ) → s ≤ t → Advances rho (t - s) (10 ^ 9 * s) (10 ^ 9 * t)
time_advances rho s t le = record { least = omega arith; most = omega arith }

-- where both are counted in parts, the quotient stays
same_quotient : (g t : ℕ) → 0 < g → 10 ^ 9 * t / (g * 10 ^ 9) ≡ t / g
same_quotient g t some =
    let low : g * (t / g) ≤ t = mul-div-le t g in
    let high : t < g * (t / g + 1) = lt-mul-div-succ t some in
    div-eq_of_lt-le (g * 10 ^ 9) {m = 10 ^ 9 * t} (omega arith) (omega arith)

-- the time in whole grains is that count rounded
pub steady_reads : (grain t : ℕ) → steady_reading grain t ≡ rounded grain (10 ^ 9 * t)
steady_reads zero t = omega arith
steady_reads (suc g) t = ap (λ q. suc g * q) (sym (same_quotient (suc g) t (omega arith)))
