-- The path error, from what the hops of a path add up to.
use Rattle.std.proofs.Common.{◌*◌, ◌+◌, ◌-◌, ◌/◌, ◌^◌, ◌∷◌, ◌≡◌, ◌≤◌, List, [], arith, length, refl, suc, ℕ}
use Rattle.std.{proofs.{Math.Nat.{mul-le-mul_left, mul-le-mul_right}, lemmas.List.Sums.sum_by-cons}, specs.{List.sum_by, Prelude.All}}
use Rattle.drift_clock.specs.transparent.Hops.{Hop, IsHop, PermanentInTime, growth, travel}

-- the holds, what was measured of them, the wires, the delays and the jitters of a path
record Totals (rho e n : ℕ) (hops : List Hop) : Type 0 where
  hold : ℕ
  measured : ℕ
  wire : ℕ
  delay : ℕ
  takes : travel hops ≡ hold + delay
  grows : growth hops ≡ measured + wire
  low : 10 ^ 9 * measured ≤ 10 ^ 9 * hold + rho * hold + 2 * (n * e) * 10 ^ 9
  high : 10 ^ 9 * hold ≤ 10 ^ 9 * measured + rho * hold + 2 * (n * e) * 10 ^ 9
  least : wire ≤ delay
  most : delay ≤ wire + sum_by (λ h. h.jitter) hops

rest : (P : Hop → Type 0) (h : Hop) (hops : List Hop) → All P (h ∷ hops) → All P hops
rest P h hops all k d lt = all (suc k) d (omega arith)

totals : (rho e : ℕ) (hops : List Hop) → All (IsHop rho e) hops → Totals rho e (length hops) hops
totals rho e [] all = record {
  hold = 0;
  measured = 0;
  wire = 0;
  delay = 0;
  takes = refl;
  grows = refl;
  low = omega arith;
  high = omega arith;
  least = omega arith;
  most = omega arith;
}
totals rho e (x ∷ hops) all =
    let t = totals rho e hops (rest (IsHop rho e) x hops all) in
    let q = all 0 x (omega arith) in
    let a = sum_by-cons (λ h. h.hold + h.delay) x hops in
    let b = sum_by-cons (λ h. h.measured + h.wire) x hops in
    let j = sum_by-cons (λ h. h.jitter) x hops in
    record {
      hold = x.hold + t.hold;
      measured = x.measured + t.measured;
      wire = x.wire + t.wire;
      delay = x.delay + t.delay;
      takes = omega (arith, t.takes);
      grows = omega (arith, t.grows);
      low = omega (arith, t.low, q.measures);
      high = omega (arith, t.high, q.measures);
      least = omega (arith, t.least, q.least);
      most = omega (arith, t.most, q.most);
    }

-- the numbers alone: n hops with the sum j of their jitters
close : (rho e n dmax a x h m w d j : ℕ) → rho ≤ 1000000 → 1 ≤ e → n ≤ 8
    → 10 ^ 9 * m ≤ 10 ^ 9 * h + rho * h + 2 * (n * e) * 10 ^ 9 → 10 ^ 9 * h ≤ 10 ^ 9 * m + rho * h + 2 * (n * e) * 10 ^ 9
    → w ≤ d → d ≤ w + j → dmax ≤ m + w + a → m + w + a ≤ dmax + 2 * e
    → 10 ^ 9 * a ≤ 10 ^ 9 * x + rho * x + 2 * e * 10 ^ 9 → 10 ^ 9 * x ≤ 10 ^ 9 * a + rho * x + 2 * e * 10 ^ 9
    → (h + d + x ≤ dmax + (j + 4 * rho * dmax / 10 ^ 9 + 8 * e * (n + 2))) × (dmax ≤ h + d + x + (j + 4 * rho * dmax / 10 ^ 9 + 8 * e * (n + 2)))
close rho e n dmax a x h m w d j small one few low high least most from to below above =
    let slow = mul-le-mul_right (h + x) small in
    let whole : h + x ≤ 2 * (dmax + 2 * (n * e) + 4 * e) = omega arith in
    let drift = mul-le-mul_left rho whole in
    let part = mul-le-mul_right (n * e) small in
    let rest = mul-le-mul_right e small in
    (omega arith, omega arith)

pub permanent_in_time : PermanentInTime
permanent_in_time rho e dmax s t q a hops small one few all enough arrives after waits =
    let sums = totals rho e hops all in
    let r = close rho e (length hops) dmax a (q - t) sums.hold sums.measured sums.wire sums.delay (sum_by (λ h. h.jitter) hops) small one few sums.low sums.high
    sums.least sums.most (omega (arith, waits.least, sums.grows)) (omega (arith, waits.most, sums.grows)) (omega (arith, waits.measures))
    (omega (arith, waits.measures)) in
    omega (arith, r.0, r.1, sums.takes)
