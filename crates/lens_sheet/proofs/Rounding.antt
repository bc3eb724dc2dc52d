-- Figures are the nearest to their numbers, and fit where these do.
use Rattle.lens_sheet.specs.Figures.{IsNearest, thousandths}
use Rattle.std.proofs.{Common.{◌*◌, ◌+◌, ◌<◌, ◌≤◌, arith, inl, inr, ℕ}, lemmas.Bool.cases_lt}
use Rattle.std.proofs.Math.Nat.{div-mul-le_self, lt-div-mul-add, mul-le-mul_left, mul-le-mul_right}

pub nearest : (parts one : ℕ) → 1 ≤ one → IsNearest parts one (thousandths parts one)
nearest parts one some =
    let least = div-mul-le_self (2 * 1000 * parts + one) (2 * one) in
    let some_two : 0 < 2 * one = omega (arith, some) in
    let most = lt-div-mul-add {a = 2 * 1000 * parts + one} {b = 2 * one} some_two in
    record { not_above = omega (arith, least); not_below = omega (arith, most) }

-- there are no more thousandths than parts, where one has a thousand of them
pub no_more : (parts one : ℕ) → 1000 ≤ one → thousandths parts one ≤ parts
no_more parts one many = elim (cases_lt parts (thousandths parts one)) [
  | inr most ↦ most
  | inl more ↦
      let least = div-mul-le_self (2 * 1000 * parts + one) (2 * one) in
      let whole : (parts + 1) * (2 * one) ≤ thousandths parts one * (2 * one) = mul-le-mul_right (2 * one) (omega (arith, more)) in
      let parts_most : parts * 1000 ≤ parts * one = mul-le-mul_left parts many in
      absurd (omega (arith, least, whole, parts_most, many))
]
