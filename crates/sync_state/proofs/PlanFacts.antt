-- The local value at which a frame is expected, as the code works it out.
use Rattle.std.proofs.Common.{◌*ℤ◌, ◌+ℤ◌, ◌+◌, ◌-ℤ◌, ◌^◌, ◌≡◌, ◌≤ℤ◌, ◌≤◌, FitsSigned, arith, mul-le-mul, neg_ℤ, negsuc, of_z, pos, refl, to_z, ℕ, ℤ}
use Rattle.{std.{proofs.lemmas.Int.{ints, to_z-of_z}, specs.Int.w64}, tte_units.specs.Reading.{greatest_reading, least_reading}}

fits_long : (z : ℤ) → neg_ℤ (pos (2 ^ 63)) ≤ℤ z → z ≤ℤ pos (2 ^ 62 + 2 ^ 61 + 2 ^ 60) → FitsSigned w64 z
fits_long z low high = grind (arith, ints)

whole : (z : ℤ) → neg_ℤ (pos (2 ^ 63)) ≤ℤ z → z ≤ℤ pos (2 ^ 62 + 2 ^ 61 + 2 ^ 60) → to_z w64 (of_z w64 z) ≡ z
whole z low high = to_z-of_z w64 z (fits_long z low high)

start_bounds : (n : ℕ) (l : ℤ) → n ≤ 2 ^ 21 + 2 ^ 18 → pos (2 ^ 32) ≤ℤ l → l ≤ℤ pos (2 ^ 40) → (pos 0 ≤ℤ (pos n *ℤ l)) × ((pos n *ℤ l) ≤ℤ pos (2 ^ 61 + 2 ^ 58))
start_bounds n (pos m) cycle low high =
    let most : m ≤ 2 ^ 40 = omega (arith, ints) in
    (omega (arith, ints), omega (arith, ints, mul-le-mul cycle most))
start_bounds n (negsuc m) cycle low high = absurd (omega (arith, ints))

start-is : (n : ℕ) (f l : ℤ) → f ≡ pos n → n ≤ 2 ^ 21 + 2 ^ 18 → pos (2 ^ 32) ≤ℤ l → l ≤ℤ pos (2 ^ 40)
    → (to_z w64 (of_z w64 f) *ℤ to_z w64 (of_z w64 l)) ≡ (pos n *ℤ l)
start-is n f l is cycle low high =
    rw (whole f (omega (arith, ints)) (omega (arith, ints)), whole l (omega (arith, ints)) (omega (arith, ints)), is)
    refl

-- the start of the cycle
pub start_fits : (n : ℕ) (f l : ℤ) → f ≡ pos n → n ≤ 2 ^ 21 + 2 ^ 18 → pos (2 ^ 32) ≤ℤ l → l ≤ℤ pos (2 ^ 40)
    → FitsSigned w64 (to_z w64 (of_z w64 f) *ℤ to_z w64 (of_z w64 l))
start_fits n f l is cycle low high =
    let start = start_bounds n l cycle low high in
    rw (start-is n f l is cycle low high) (fits_long _ (omega (arith, ints, start.0)) (omega (arith, ints, start.1)))

-- the point in the cycle
pub expected_fits : (n : ℕ) (f l e : ℤ) → f ≡ pos n → n ≤ 2 ^ 21 + 2 ^ 18 → pos (2 ^ 32) ≤ℤ l → l ≤ℤ pos (2 ^ 40) → least_reading ≤ℤ e → e ≤ℤ greatest_reading
    → FitsSigned w64 (to_z w64 (of_z w64 (to_z w64 (of_z w64 f) *ℤ to_z w64 (of_z w64 l))) +ℤ to_z w64 (of_z w64 e))
expected_fits n f l e is cycle low high least most =
    let start = start_bounds n l cycle low high in
    let first = whole (pos n *ℤ l) (omega (arith, ints, start.0)) (omega (arith, ints, start.1)) in
    rw (start-is n f l is cycle low high, first, whole e (omega (arith, ints)) (omega (arith, ints)))
    (fits_long _ (omega (arith, ints, start.0)) (omega (arith, ints, start.1)))

-- the adjustment that shows it at a point
pub adjustment_fits : (n : ℕ) (l e a p : ℤ) → a ≡ ((pos n *ℤ l) +ℤ e) → n ≤ 2 ^ 21 + 2 ^ 18 → pos (2 ^ 32) ≤ℤ l → l ≤ℤ pos (2 ^ 40)
    → least_reading ≤ℤ e → e ≤ℤ greatest_reading → least_reading ≤ℤ p → p ≤ℤ greatest_reading → FitsSigned w64 (to_z w64 (of_z w64 a) -ℤ to_z w64 (of_z w64 p))
adjustment_fits n l e a p is cycle low high least most from to =
    let start = start_bounds n l cycle low high in
    let first = whole a (omega (arith, ints, start.0)) (omega (arith, ints, start.1)) in
    rw (first, whole p (omega (arith, ints)) (omega (arith, ints)))
    (fits_long _ (omega (arith, ints, start.0)) (omega (arith, ints, start.1)))
