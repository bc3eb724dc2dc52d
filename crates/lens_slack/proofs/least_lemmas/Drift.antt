-- The least dmax, in closed form.
use Rattle.std.proofs.Common.{◌*◌, ◌+◌, ◌-◌, ◌/◌, ◌<◌, ◌^◌, ◌≡◌, ◌≤◌, ap, arith, inl, inr, ℕ}
use Rattle.std.proofs.{Math.Nat.{div-mul-le_self, lt-div-mul-add, mul-le-mul_left, mul-le-mul_right}, lemmas.Bool.cases_lt}

-- a longer time has no less drift
pub drift_more : (rate d e : ℕ) → d ≤ e → rate * d / 10 ^ 9 ≤ rate * e / 10 ^ 9
drift_more rate d e most = let more = mul-le-mul_left rate most in omega (arith, more)

module _ (rate left need : ℕ) (whole : rate + left ≡ 1000000000) (some : 1 ≤ need) (few : rate ≤ 4000000) where
  -- one less than the least
  abbrev pub below : ℕ
  below = (need - 1) * 1000000000 / left

  -- what the drift leaves of a time
  parts : (d : ℕ) → d * rate + d * left ≡ 1000000000 * d
  parts d = let all = ap (λ (x : ℕ). d * x) whole in omega (arith, all)

  under : below * left ≤ (need - 1) * 1000000000
  under = div-mul-le_self ((need - 1) * 1000000000) left

  over : (need - 1) * 1000000000 < below * left + left
  over = let some_left : 0 < left = omega (arith, whole, few) in lt-div-mul-add {a = (need - 1) * 1000000000} {b = left} some_left

  -- it has room
  pub fits : need + rate * (below + 1) / 10 ^ 9 ≤ below + 1
  fits =
      let all = parts (below + 1) in
      let most = over in
      let turned : rate * (below + 1) ≡ (below + 1) * rate = omega arith in
      omega (arith, all, most, turned, some)

  -- a lesser one has none
  pub least : (d : ℕ) → need + rate * d / 10 ^ 9 ≤ d → below + 1 ≤ d
  least d room = elim (cases_lt below d) [
    | inl more ↦ omega (arith, more)
    | inr most ↦
        let all = parts d in
        let product : d * left ≤ below * left = mul-le-mul_right left most in
        let bound = under in
        let turned : rate * d ≡ d * rate = omega arith in
        absurd (omega (arith, room, all, product, bound, turned, some))
  ]

  -- so the room is used up
  pub fixed : below + 1 ≡ need + rate * (below + 1) / 10 ^ 9
  fixed = elim (cases_lt (need + rate * (below + 1) / 10 ^ 9) (below + 1)) [
    | inl spare ↦
        let more = drift_more rate below (below + 1) (omega arith) in
        let less = least below (omega (arith, spare, more)) in
        absurd (omega (arith, less))
    | inr none ↦ let room = fits in omega (arith, none, room)
  ]

  -- and it is less than twice what is needed
  pub twice : below + 1 ≤ 2 * need
  twice =
      let slow = mul-le-mul_right (2 * need) few in
      least (2 * need) (omega (arith, slow))
