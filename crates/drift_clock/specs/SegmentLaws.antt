-- A clock that counts exactly keeps the laws of a clock.
use Rattle.std.proofs.{Common.arith, Math.Nat.mul-le-mul_right, lemmas.Int.ints}
use Rattle.std.specs.Prelude.{◌*◌, ◌+◌, ◌-◌, ◌^◌, ◌≡◌, ◌≤◌, negsuc, pos, unsigned_abs, ℕ, ℤ}
use Rattle.drift_clock.specs.{Counts.{Advances, gain}, Segment.{Segment, fresh_segment, segment_count, stepped_segment}}

-- at the time of the step itself
stays : (n g d : ℕ) → d ≡ 0 → n + g * d ≡ n
stays n g d z = rw z (omega arith)

-- a step keeps the count
pub keeps_count : (c : Segment) (t : ℕ) (r : ℤ) → segment_count (stepped_segment c t r) t ≡ segment_count c t
keeps_count c t r = stays (segment_count c t) (gain r) (t - t) (omega arith)

-- a gain is that of no rate, but for the rate
pub gain_near : (r : ℤ) (rho : ℕ) → unsigned_abs r ≤ rho → rho ≤ 1000000 → (10 ^ 9 ≤ gain r + rho)
    × (gain r ≤ 10 ^ 9 + rho)
gain_near (pos r) rho small max = (omega arith, omega arith)
gain_near (negsuc r) rho small max = (omega (arith, ints), omega (arith, ints))

-- a count at one gain
advances_by : (n g rho d e a : ℕ) → 10 ^ 9 ≤ g + rho → g ≤ 10 ^ 9 + rho → a ≡ d + e
    → Advances rho e (n + g * d) (n + g * a)
advances_by n g rho d e a low high same =
    let p : (10 ^ 9) * e ≤ (g + rho) * e = mul-le-mul_right e low in
    let q : g * e ≤ (10 ^ 9 + rho) * e = mul-le-mul_right e high in
    rw same (record { least = omega arith; most = omega arith })

-- after a step the count advances at its rate
pub advances : (c : Segment) (s t u : ℕ) (r : ℤ) (rho : ℕ) → unsigned_abs r ≤ rho → rho ≤ 1000000 → s ≤ t → t ≤ u
    → Advances rho (u - t) (segment_count (stepped_segment c s r) t) (segment_count (stepped_segment c s r) u)
advances c s t u r rho small max a b =
    let bounds = gain_near r rho small max in
    advances_by (segment_count c s) (gain r) rho (t - s) (u - t) (u - s) bounds.0 bounds.1 (omega arith)

right : (t a : ℕ) → a ≡ t → 0 + 10 ^ 9 * a ≡ 10 ^ 9 * t
right t a same = omega arith

-- before any step the count is that of the time
pub counts_time : (g t : ℕ) → segment_count (fresh_segment g) t ≡ 10 ^ 9 * t
counts_time g t = right t (t - 0) (omega arith)
