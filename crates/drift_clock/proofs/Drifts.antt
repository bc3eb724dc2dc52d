-- What a drifting clock counts: by its drift, up to an instant, in whole grains, and with its slip.
use Rattle.std.{specs.Int.{abs_diff, div_ceil}}
use Rattle.std.proofs.Common
use Common.{◌%◌, ◌*ℤ◌, ◌*◌, ◌+ℤ◌, ◌+◌, ◌-ℤ◌, ◌-◌, ◌/◌, ◌<◌, ◌^◌, ◌∙◌, ◌≡◌, ◌≤◌, ap, arith, inl, inr, negsuc, of_z, pos}
use Common.{suc, to_z, unsigned_abs, w64, ℕ, ℤ}
use Rattle.std.proofs.Math.{IntN.{negsuc-*ℤ-pos, pos-*ℤ-pos}}
use Rattle.std.proofs.Math.Nat
use Nat.{div-div-eq-div-mul, lt-mul-div-succ, lt_of_mul-lt-mul_left, mul-div-le, mul-le-mul_left, mul-le-mul_right}
use Rattle.std.proofs.lemmas.{Bool.cases_lt, Grind.div_ceil_times}
use Rattle.std.proofs.lemmas.{Int.{fits_signed_from_abs, ints, to_z-of_z, to_z_pos}, Nat.le-div}
use Rattle.drift_clock.specs.{ClockLaws.{KeepsClockLaws, Measures}, Counts.{Advances, gain, rounded}, Reach.IsReach}
use Rattle.drift_clock.specs.{Segment.{Segment, counted, segment_count, segment_reading}, SegmentLaws.gain_near}
use Rattle.drift_clock.specs.{Slips.{SlipsLittle, grained_slip}}

-- ---- what is counted in a short stretch, reckoned by its drift

-- ---- the drift of a short stretch

times_small : (m n : ℕ) → m ≤ 1000000 → n < 2 ^ 42 → m * n ≤ 1000000 * 2 ^ 42
times_small m n slow short =
    let a = mul-le-mul_right n slow in
    omega arith

-- with the drift and so much before it, so many units are counted
with_drift : (r : ℤ) (n base : ℕ) (x : ℤ) → unsigned_abs r ≤ 1000000 → n < 2 ^ 42 → 4400000000000000000 ≤ base → x ≡ pos base +ℤ (r *ℤ pos n)
    → unsigned_abs x + 1000000000 * n ≡ base + gain r * n
with_drift (pos m) n base x slow short much is =
    let x_is = is ∙ ap (λ z. pos base +ℤ z) (pos-*ℤ-pos m n) in
    omega (arith, ints)
with_drift (negsuc m) n base x slow short much is =
    let g = gain (negsuc m) in
    let g_is : g + suc m ≡ 1000000000 = omega (arith, ints) in
    let times : (g + suc m) * n ≡ 1000000000 * n = ap (λ k. k * n) g_is in
    let most = times_small (suc m) n slow short in
    let x_is = is ∙ ap (λ z. pos base +ℤ z) (negsuc-*ℤ-pos m n) in
    omega (arith, ints)

-- without it, so many are lacking
without_drift : (r : ℤ) (n base : ℕ) (x : ℤ) → unsigned_abs r ≤ 1000000 → n < 2 ^ 42 → 4400000000000000000 ≤ base → x ≡ pos base -ℤ (r *ℤ pos n)
    → unsigned_abs x + gain r * n ≡ base + 1000000000 * n
without_drift (pos m) n base x slow short much is = grind (arith, times_small, pos-*ℤ-pos, ints)
without_drift (negsuc m) n base x slow short much is =
    let g = gain (negsuc m) in
    let g_is : g + suc m ≡ 1000000000 = omega (arith, ints) in
    let times : (g + suc m) * n ≡ 1000000000 * n = ap (λ k. k * n) g_is in
    let x_is = is ∙ ap (λ z. pos base -ℤ z) (negsuc-*ℤ-pos m n) in
    omega (arith, ints)

-- ---- as words of 64 bits show it

reads : (z : ℤ) → unsigned_abs z ≤ 9000000000000000000 → to_z w64 (of_z w64 z) ≡ z
reads z small = to_z-of_z w64 z (fits_signed_from_abs w64 z (omega arith))

pos_read : (n : ℕ) → n ≤ 9000000000000000000 → to_z w64 n ≡ pos n
pos_read n small = to_z_pos w64 n (omega arith)

pub parts_read : (r : ℤ) (n part : ℕ) (d : ℤ) → unsigned_abs r ≤ 1000000 → n < 2 ^ 42 → part < 1000000000 → d ≡ r *ℤ pos n
    → unsigned_abs d ≤ 4400000000000000000
    → unsigned_abs (to_z w64 (of_z w64 (to_z w64 (4500000000000000000 + part) +ℤ to_z w64 (of_z w64 d)))) + 1000000000 * n
    ≡ 4500000000000000000 + part + gain r * n
parts_read r n part d slow short less is small = grind (arith, to_z, w64, of_z, pos_read, reads, ints, with_drift)

pub lack_read : (r : ℤ) (n part each : ℕ) (d : ℤ) → unsigned_abs r ≤ 1000000 → n < 2 ^ 42 → part < 1000000000 → each ≡ gain r → d ≡ r *ℤ pos n
    → unsigned_abs d ≤ 4400000000000000000 → unsigned_abs (to_z w64 (of_z w64 (to_z w64 (4500000000 * each - part) -ℤ to_z w64 (of_z w64 d)))) + each * n + part
    ≡ 1000000000 * n + each * 4500000000
lack_read r n part each d slow short less each_is is small =
    let near = gain_near r 1000000 slow (omega arith) in
    let base = 4500000000 * each - part in
    let read : to_z w64 base -ℤ to_z w64 (of_z w64 d) ≡ pos base -ℤ d =
    rw (pos_read base (omega arith))
    ((rw (reads d (omega arith)))) in
    let whole : to_z w64 (of_z w64 (to_z w64 base -ℤ to_z w64 (of_z w64 d))) ≡ pos base -ℤ (r *ℤ pos n) =
    rw read
    (reads (pos base -ℤ d) (omega (arith, ints)) ∙ (rw is)) in
    let counted = without_drift r n base _ slow short (omega arith) whole in
    let same : each * n ≡ gain r * n = rw each_is in
    omega (arith, counted)

-- ---- quotients rounded up

-- a quotient rounded up is the one that is just enough
one_ceiling : (x g q : ℕ) → 0 < g → x ≤ q * g → q * g < x + g → q ≡ div_ceil x g
one_ceiling x g q some enough least = grind (arith, div_ceil_times, cases_lt, mul-le-mul_right)

-- fewer steps by as many as the shift has more
pub shifted_ceiling : (x y g m s d : ℕ) → 0 < g → d ≡ div_ceil x g → x + g * m ≡ y + g * s → m + d ≡ div_ceil y g + s
shifted_ceiling x y g m s d some is same =
    let times = div_ceil_times x g some in
    let low : x ≤ d * g = rw is times.0 in
    let high : d * g < x + g = rw is times.1 in
    let floor = moved y s in
    let whole = one_ceiling (y + g * s) g (m + d) some (omega arith) (omega arith) in
    omega arith
  where
    moved : (y s : ℕ) → div_ceil (y + g * s) g ≡ div_ceil y g + s
    moved y s =
        let times = div_ceil_times y g some in
        let low = times.0 in
        let high = times.1 in
        let whole = one_ceiling (y + g * s) g (div_ceil y g + s) some (omega arith) (omega arith) in
        omega arith

-- ---- whole units in whole grains

pub whole_grains : (grain whole part : ℕ) → part < 1000000000 → rounded grain (counted whole part) ≡ grain * (whole / grain)
whole_grains grain whole part less = grind (arith, div-div-eq-div-mul)

-- ---- a count rounded down to whole grains

pub rounded-zero : (grain : ℕ) → rounded grain 0 ≡ 0
rounded-zero grain = omega (arith, mul-div-le 0 (grain * 10 ^ 9))

-- it is at most the count, and less than a grain below it
pub rounded-le : (grain x : ℕ) → 10 ^ 9 * rounded grain x ≤ x
rounded-le grain x = omega (arith, mul-div-le x (grain * 10 ^ 9))

pub lt-rounded : (grain x : ℕ) → 1 ≤ grain → x < 10 ^ 9 * rounded grain x + grain * 10 ^ 9
lt-rounded grain x some =
    let positive : 0 < grain * 10 ^ 9 = omega arith in
    omega (arith, lt-mul-div-succ x positive)

-- a count of at least m, in whole grains, is at least m rounded
le-rounded : (grain n m x : ℕ) → 1 ≤ grain → m % grain ≡ 0 → n ≤ m → 10 ^ 9 * m ≤ x → n ≤ rounded grain x
le-rounded grain n m x some whole small enough = grind (arith, le-div, mul-le-mul_left)

-- a count below m, the first whole grains from n on, is below n rounded
rounded-lt : (grain n m x : ℕ) → 1 ≤ grain → m % grain ≡ 0 → m < n + grain → x < 10 ^ 9 * m → rounded grain x < n
rounded-lt grain n m x some whole least short = grind (arith, mul-div-le, lt_of_mul-lt-mul_left, mul-le-mul_left)

-- more is not less when it is rounded
pub rounded-mono : (grain a b : ℕ) → 1 ≤ grain → a ≤ b → rounded grain a ≤ rounded grain b
rounded-mono grain a b some le = grind (arith, mul-div-le, le-div, mul-le-mul_left)

apart : (rho grain d a b x y : ℕ) → Advances rho d a b → 10 ^ 9 * x ≤ a → a < 10 ^ 9 * x + grain * 10 ^ 9 → 10 ^ 9 * y ≤ b → b < 10 ^ 9 * y + grain * 10 ^ 9
    → x ≤ y → Measures rho grain d (y - x)
apart rho grain d a b x y near a_low a_high b_low b_high up = omega (arith, near.least, near.most)

-- between two counts that advance rightly the reading measures the time
pub rounded-measures : (rho grain d a b : ℕ) → 1 ≤ grain → a ≤ b → Advances rho d a b → Measures rho grain d (rounded grain b - rounded grain a)
rounded-measures rho grain d a b some up near =
    apart rho grain d a b (rounded grain a) (rounded grain b) near (rounded-le grain a) (lt-rounded grain a some) (rounded-le grain b) (lt-rounded grain b some)
    (rounded-mono grain a b some up)

-- ---- the instant at which a count is enough

-- a reach over numbers that are not negative
pub record IsReachFrom (reading : ℕ → ℕ) (from v t : ℕ) : Type 0 where
  pub from_on : from ≤ t
  pub reached : v ≤ reading t
  pub not_before : (x : ℕ) → from ≤ x → x < t → reading x < v

pub reach_from : (reading : ℕ → ℕ) (from v : ℤ) (s n t : ℕ) → from ≡ pos s → v ≡ pos n → IsReachFrom reading s n t → IsReach reading from v (pos t)
reach_from reading from v s n t from_is v_is r = grind (arith, ints)

ceil_from : (x g q d : ℕ) → d ≡ q → (x ≤ q * g) × (q * g < x + g) → (x ≤ g * d) × (g * d < x + g)
ceil_from x g q d e h = rw e (omega (arith, h.0), omega (arith, h.1))

-- a quotient rounded up is just enough
ceiling : (x g d : ℕ) → 0 < g → d ≡ div_ceil x g → (x ≤ g * d) × (g * d < x + g)
ceiling x g d some e = ceil_from x g (div_ceil x g) d e (div_ceil_times x g some)

-- a count at this gain goes on to m after so many steps
pub record IsCounted (c : Segment) (m t : ℕ) : Type 0 where
  pub counted : 10 ^ 9 * m ≤ segment_count c t
  pub not_before : (x : ℕ) → c.at ≤ x → x < t → segment_count c x < 10 ^ 9 * m

counts_up : (at count g m d : ℕ) → 0 < g → count ≤ 10 ^ 9 * m → d ≡ div_ceil (10 ^ 9 * m - count) g
    → (10 ^ 9 * m ≤ count + g * ((at + d) - at)) × ((x : ℕ) → at ≤ x → x < at + d → count + g * (x - at) < 10 ^ 9 * m)
counts_up at count g m d fast ahead steps = grind (arith, ceiling, mul-le-mul_left)

pub segment_counts_up : (c : Segment) (m d : ℕ) → 0 < gain c.rate → c.count ≤ 10 ^ 9 * m → d ≡ div_ceil (10 ^ 9 * m - c.count) (gain c.rate)
    → IsCounted c m (c.at + d)
segment_counts_up c m d fast ahead steps = let up = counts_up c.at c.count (gain c.rate) m d fast ahead steps in record { counted = up.0; not_before = up.1 }

grows : (n g a b : ℕ) → a ≤ b → n + g * a ≤ n + g * b
grows n g a b le = omega (arith, mul-le-mul_left g le)

-- where m is counted already, n is read
pub segment_reached : (c : Segment) (s n m : ℕ) → 1 ≤ c.grain → m % c.grain ≡ 0 → n ≤ m
    → 10 ^ 9 * m ≤ segment_count c s
    → IsReachFrom (segment_reading c) s n s
segment_reached c s n m some whole enough counted = record {
  from_on = omega arith;
  reached = le-rounded c.grain n m (segment_count c s) some whole enough counted;
  not_before = λ x from_x before. absurd (omega arith);
}

-- what is counted at a time is counted later
pub counts_on : (c : Segment) (t s : ℕ) → t ≤ s → segment_count c t ≤ segment_count c s
counts_on c t s le = grows c.count (gain c.rate) (t - c.at) (s - c.at) (omega arith)

-- the time at which m is counted is the one at which n is read, where that is not past
pub segment_comes : (c : Segment) (s n m t : ℕ) → 1 ≤ c.grain → m % c.grain ≡ 0 → n ≤ m → m < n + c.grain
    → c.at ≤ s → s ≤ t → IsCounted c m t → IsReachFrom (segment_reading c) s n t
segment_comes c s n m t some whole enough least after from_on counted = record {
  from_on = from_on;
  reached = le-rounded c.grain n m (segment_count c t) some whole enough counted.counted;
  not_before = λ x from_x before.
      rounded-lt c.grain n m (segment_count c x) some whole least
      (counted.not_before x (omega arith) before);
}

-- the time in whole grains is at least n from the next whole grain m on
pub steady_reaches : (grain s n m : ℕ) → 1 ≤ grain → m % grain ≡ 0 → n ≤ m → m < n + grain → grain * (s / grain) < n
    → IsReachFrom (λ t. grain * (t / grain)) s n m
steady_reaches grain s n m some whole enough least short = grind (arith, cases_lt, le-div, mul-le-mul_left, mul-div-le, lt_of_mul-lt-mul_left)

-- a reading comes to a value but once
pub one_reach : (reading : ℕ → ℕ) (from v : ℤ) (u t : ℕ) → IsReach reading from v (pos u) → IsReach reading from v (pos t) → u ≡ t
one_reach reading from v u t a b =
    elim (cases_lt u t) [
      | inl lt ↦ let less = b.not_before u a.from_on (omega (arith, ints)) in let reached = a.reached in
          absurd (omega (arith, ints))
      | inr ge ↦ elim (cases_lt t u) [
        | inl lt ↦ let less = a.not_before t b.from_on (omega (arith, ints)) in let reached = b.reached in
            absurd (omega (arith, ints))
        | inr le ↦ omega arith
      ]
    ]

-- ---- the law of slip, from the clock laws

-- d is how far the time l is from v
close : (rho grain v l d : ℕ) → rho ≤ 1000000 → 1 ≤ grain → d ≡ abs_diff l v → 10 ^ 9 * d ≤ rho * (l + 1) + 2 * grain * 10 ^ 9 → d ≤ grained_slip rho grain v
close rho grain v l d small some far near =
    elim (cases_lt (2 * v) (l + 1)) [
      | inr short ↦
          let drift = mul-le-mul_left rho short in
          omega arith
      | inl long ↦
          let drift = mul-le-mul_right (l + 1) small in
          omega arith
    ]

-- the later value is not reached too late
late : (rho grain : ℕ) (reading : ℕ → ℕ) (from u v s t : ℕ) → KeepsClockLaws rho grain reading → IsReach reading (pos from) (pos u) (pos s)
    → IsReach reading (pos from) (pos (u + v)) (pos t) → s < t → 10 ^ 9 * (t - (s + v)) ≤ rho * (t - s + 1) + 2 * grain * 10 ^ 9
late rho grain reading from u v s t laws first second after =
    let short = second.not_before (t - 1) (omega (arith, ints, first.from_on)) (omega (arith, ints)) in
    let up = laws.never_falls s (t - 1) (omega arith) in
    let drift = laws.drifts s (t - 1) (omega arith) in
    let less : rho * (t - 1 - s) ≤ rho * (t - s + 1) = mul-le-mul_left rho (omega arith) in
    omega (arith, ints, first.reached)

-- nor too early
early : (rho grain : ℕ) (reading : ℕ → ℕ) (from u v s t : ℕ) → KeepsClockLaws rho grain reading → reading from ≤ u → IsReach reading (pos from) (pos u) (pos s)
    → IsReach reading (pos from) (pos (u + v)) (pos t) → s ≤ t → 10 ^ 9 * (s + v - t) ≤ rho * (t - s + 1) + 2 * grain * 10 ^ 9
early rho grain reading from u v s t laws below first second after =
    elim (cases_lt from s) [
      | inl moved ↦
          let short = first.not_before (s - 1) (omega (arith, ints)) (omega (arith, ints)) in
          let drift = laws.drifts (s - 1) t (omega arith) in
          let same : t - (s - 1) ≡ t - s + 1 = omega arith in
          let drift' = rw same at drift in
          omega (arith, ints, second.reached)
      | inr still ↦
          let same : s ≡ from = omega (arith, ints, first.from_on) in
          let drift = laws.drifts s t after in
          let less : rho * (t - s) ≤ rho * (t - s + 1) = mul-le-mul_left rho (omega arith) in
          let here : reading s ≤ u = rw same below in
          omega (arith, ints, second.reached)
    ]

pub slips_little : SlipsLittle
slips_little rho grain reading from u v s t small some laws below first second =
    let ordered : s ≤ t = elim (cases_lt t s) [
      | inr ge ↦ ge
      | inl lt ↦
          let short = first.not_before t (second.from_on) (omega (arith, ints)) in
          absurd (omega (arith, ints, second.reached))
    ] in
    let e = early rho grain reading from u v s t laws below first second ordered in
    let near : 10 ^ 9 * abs_diff t (s + v) ≤ rho * (t - s + 1) + 2 * grain * 10 ^ 9 = elim (cases_lt s t) [
      | inl lt ↦ let l = late rho grain reading from u v s t laws first second lt in omega arith
      | inr ge ↦ omega arith
    ] in
    close rho grain v (t - s) (abs_diff t (s + v)) small some (omega arith) near
