-- The least and the greatest of local clocks, device by device.
use Rattle.{drift_world.specs.Locals.IsLocalValue, run_law.specs.law.Safety.IsInStep, std.{proofs.lemmas.{Bool.cases_lt, Int.{ints, to_z-of_z}}, specs.Int.{w128, w64}}}
use Rattle.{net_plan.specs.declared.ids.DeviceId.DeviceId, run_law.specs.{device.LocalClocks.local, records.Happenings.Happening, scenario.Scenarios.Scenario}}
use Rattle.std.proofs.Common.{◌+◌, ◌-ℤ◌, ◌<ℤ◌, ◌<◌, ◌^◌, ◌∙◌, ◌≡◌, ◌≤ℤ◌, ◌⊎◌, FitsSigned, List, None, Option, Some, ap, arith, false, inl, inr, length, neg_ℤ, of_z}
use Rattle.{std.{proofs.Common.{pos, refl, rules, subst, sym, to_z, true, ℕ, ℤ}, specs.Prelude.int_lt}, tte_units.proofs.general_lemmas.Integers.through}
use Rattle.tte_traces.specs.{declared.storms.spreads.Ends.Ends, storms.Spreads.{AreEnds, AreEndsOf, IsOfOne, IsSpreadAt, Widens}}

-- one more device is one of those before it, or the next
one_more : (d : DeviceId) (n : ℕ) → d.0 < n + 1 → (d.0 < n) ⊎ (d ≡ record { 0 = n })
one_more d n lt = elim (cases_lt d.0 n) [
  | inl less ↦ inl less
  | inr more ↦ let same : d.0 ≡ n = omega (arith, lt, more) in inr (ap (λ (k : ℕ). let e : DeviceId = record { 0 = k } in e) same)
]

module _ (s : Scenario) (hs : List Happening) (t : ℕ) where
  -- where the next device is not in step, the ends stay
  pub ends_stay : (n : ℕ) (ends : Option Ends) → (IsInStep s hs (record { 0 = n }) t → ⊥) → AreEnds s hs t n ends
      → AreEnds s hs t (n + 1) ends
  ends_stay n None out are = λ d lt step. elim (one_more d n lt) [
    | inl less ↦ are d less step
    | inr same ↦ out (subst (λ e. IsInStep s hs e t) same step)
  ]
  ends_stay n (Some ends) out are = record {
    least = are.least;
    greatest = are.greatest;
    bounds = λ d lt step. elim (one_more d n lt) [
      | inl less ↦ are.bounds d less step
      | inr same ↦ absurd (out (subst (λ e. IsInStep s hs e t) same step))
    ];
  }

  of_one : {value : ℤ} (new : ℤ) → new ≡ value → IsOfOne s hs t value → IsOfOne s hs t new
  of_one new same one = record { device = one.device; there = one.there; in_step = one.in_step; is = same ∙ one.is }

  next_one : (n : ℕ) (value : ℤ) → n < length s.network.device → IsInStep s hs (record { 0 = n }) t
      → value ≡ local s hs (record { 0 = n }) t → IsOfOne s hs t value
  next_one n value lt step is = record { device = record { 0 = n }; there = lt; in_step = step; is = is }

  next_bounds : (n : ℕ) {value : ℤ} {ends : Option Ends} {new : Ends} (w : Widens ends value new)
      → value ≡ local s hs (record { 0 = n }) t → (d : DeviceId) → d ≡ record { 0 = n }
      → (new.least ≤ℤ local s hs d t) × (local s hs d t ≤ℤ new.greatest)
  next_bounds n {value} {new} w is d same =
      let at : local s hs d t ≡ value = ap (λ e. local s hs e t) same ∙ sym is in
      let least = w.least in
      let greatest =
      w.greatest in (subst (λ z. new.least ≤ℤ z) (sym at) least, subst (λ z. z ≤ℤ new.greatest) (sym at) greatest)

  pub ends_widen : (n : ℕ) (ends : Option Ends) {value : ℤ} {new : Ends} → n < length s.network.device
      → IsInStep s hs (record { 0 = n }) t → value ≡ local s hs (record { 0 = n }) t → Widens ends value new
      → AreEnds s hs t n ends → AreEndsOf s hs t (n + 1) new
  ends_widen n None {value} {new} lt step is w are = record {
    least = elim w.least_is [ inl same ↦ of_one new.least same (next_one n value lt step is) | inr none ↦ absurd none ];
    greatest = elim w.greatest_is [ inl same ↦ of_one new.greatest same (next_one n value lt step is) | inr none ↦ absurd none ];
    bounds = λ d less in_step. elim (one_more d n less) [
      | inl before ↦ absurd (are d before in_step)
      | inr same ↦ next_bounds n w is d same
    ];
  }
  ends_widen n (Some ends) {value} {new} lt step is w are = record {
    least = elim w.least_is [
      | inl same ↦ of_one new.least same (next_one n value lt step is)
      | inr same ↦ of_one new.least same are.least
    ];
    greatest = elim w.greatest_is [
      | inl same ↦ of_one new.greatest same (next_one n value lt step is)
      | inr same ↦ of_one new.greatest same are.greatest
    ];
    bounds = λ d less in_step. elim (one_more d n less) [
      | inl before ↦
          let old = are.bounds d before in_step in (
            through new.least ends.least (local s hs d t) w.lesser.0 old.0,
            through (local s hs d t) ends.greatest new.greatest old.1 w.lesser.1,
          )
      | inr same ↦ next_bounds n w is d same
    ];
  }

  -- none is in step
  pub no_spread : AreEnds s hs t (length s.network.device) None → IsSpreadAt s hs t (pos 0)
  no_spread are = record { bound = λ apart a. absurd (are a.ahead a.ahead_there a.ahead_in_step); reached = inl refl }

apart_by : (a b least greatest apart : ℤ) → apart ≡ (a -ℤ b) → a ≤ℤ greatest → least ≤ℤ b → apart ≤ℤ (greatest -ℤ least)
apart_by a b least greatest apart is high low = omega (arith, ints, is, high, low)

-- the greatest less the least
pub spread_of : (s : Scenario) (hs : List Happening) (t : ℕ) (ends : Ends) → AreEnds s hs t (length s.network.device) (Some ends)
    → IsSpreadAt s hs t (ends.greatest -ℤ ends.least)
spread_of s hs t ends are = record {
  bound = λ apart a.
      let high = are.bounds a.ahead a.ahead_there a.ahead_in_step in
      let low = are.bounds a.behind a.behind_there a.behind_in_step in
      apart_by (local s hs a.ahead t) (local s hs a.behind t) ends.least ends.greatest apart a.is high.1 low.0;
  reached = inr (record {
    ahead = are.greatest.device;
    behind = are.least.device;
    ahead_there = are.greatest.there;
    behind_there = are.least.there;
    ahead_in_step = are.greatest.in_step;
    behind_in_step = are.least.in_step;
    is = ap (λ z. z -ℤ ends.least) are.greatest.is ∙ ap (λ z. local s hs are.greatest.device t -ℤ z) are.least.is;
  });
}

-- ---- the numbers as they are kept

wide_fits : (z : ℤ) → neg_ℤ (pos (2 ^ 66)) ≤ℤ z → z ≤ℤ pos (2 ^ 66) → FitsSigned w128 z
wide_fits z low high = search rules

value_fits : (z : ℤ) → neg_ℤ (pos (2 ^ 63)) ≤ℤ z → z <ℤ pos (2 ^ 63) → FitsSigned w64 z
value_fits z low high = search rules

-- a local value is kept in 64 bits as it is
pub value_is : {z : ℤ} → IsLocalValue z → to_z w64 (of_z w64 z) ≡ z
value_is {z} w = to_z-of_z w64 z (value_fits z (omega (arith, ints, w.low)) (omega (arith, ints, w.high)))

-- a local value in 128 bits is one
pub wide_is : {z : ℤ} → IsLocalValue z → to_z w128 (of_z w128 z) ≡ z
wide_is {z} w = to_z-of_z w128 z (wide_fits z (omega (arith, ints, w.low)) (omega (arith, ints, w.high)))

-- a local value goes into 64 bits as it is
pub units_are : {local z : ℤ} → IsLocalValue local → z ≡ to_z w128 (of_z w128 local) → to_z w64 (of_z w64 z) ≡ local
units_are small is = ap (λ x. to_z w64 (of_z w64 x)) (is ∙ wide_is small) ∙ value_is small

pub apart_fits : {a b : ℤ} → IsLocalValue a → IsLocalValue b → FitsSigned w64 (a -ℤ b)
apart_fits {a} {b} x y = value_fits (a -ℤ b) (omega (arith, ints, x.low, y.high)) (omega (arith, ints, x.high, y.low))

pub apart_is : {a b : ℤ} → IsLocalValue a → IsLocalValue b → to_z w64
    (of_z w64 (to_z w64 (of_z w64 a) -ℤ to_z w64 (of_z w64 b))) ≡ a -ℤ b
apart_is {a} {b} x y =
    ap (λ z. to_z w64 (of_z w64 (z -ℤ to_z w64 (of_z w64 b)))) (value_is x)
    ∙ ap (λ z. to_z w64 (of_z w64 (a -ℤ z))) (value_is y) ∙ to_z-of_z w64 (a -ℤ b) (apart_fits x y)

-- numbers that are kept compare as they are
pub less_kept : (a b x y : ℤ) → x ≡ a → y ≡ b → int_lt x y ≡ true → a ≤ℤ y
less_kept a b x y p q lt = omega (arith, ints, p, q, lt)

pub most_kept : (a b x y : ℤ) → x ≡ a → y ≡ b → int_lt x y ≡ false → b ≤ℤ a
most_kept a b x y p q le = omega (arith, ints, p, q, le)

pub same_kept : (a b : ℤ) → a ≡ b → b ≤ℤ a
same_kept a b p = omega (arith, ints, p)
