-- Floors, and what they tell of two values.
use Rattle.std.proofs.{Common.{◌*ℤ◌, ◌*◌, ◌+ℤ◌, ◌+◌, ◌≤ℤ◌, ◌≤◌, arith, negsuc, pos, ℕ, ℤ}, Math.Nat.mul-le-mul_right, lemmas.Int.{by_lt_z, ints}}
use Rattle.tte_observers.specs.stamps.granules.Granules.{IsFloor, stamp_of}

-- the quotient that is rounded down is the floor
pub stamp_of-floor : (granule : ℕ) (value : ℤ) → 1 ≤ granule → IsFloor granule value (stamp_of granule value)
stamp_of-floor granule (pos n) some = record { least = omega (arith, ints, some); most = omega (arith, ints, some) }
stamp_of-floor granule (negsuc n) some = record { least = omega (arith, ints, some); most = omega (arith, ints, some) }

-- what is two more is two granules more
two_more : (granule : ℕ) (a b : ℤ) → (b +ℤ pos 2) ≤ℤ a → ((b *ℤ pos granule) +ℤ pos (2 * granule)) ≤ℤ (a *ℤ pos granule)
two_more granule (pos a) (pos b) le =
    let less : b + 2 ≤ a = omega (arith, ints, le) in
    let product : (b + 2) * granule ≤ a * granule = mul-le-mul_right granule less in
    omega (arith, ints, product)
two_more granule (pos a) (negsuc b) le =
    let some : 1 ≤ a + b = omega (arith, ints, le) in
    let product : 1 * granule ≤ (a + b) * granule = mul-le-mul_right granule some in
    omega (arith, ints, product)
two_more granule (negsuc a) (pos b) le = absurd (omega (arith, ints, le))
two_more granule (negsuc a) (negsuc b) le =
    let less : a + 2 ≤ b = omega (arith, ints, le) in
    let product : (a + 2) * granule ≤ b * granule = mul-le-mul_right granule less in
    omega (arith, ints, product)

-- where a value is at most a granule more than another, its floor is at most one more
pub floors_near : {granule : ℕ} {x y a b : ℤ} → IsFloor granule x a → IsFloor granule y b → x ≤ℤ (y +ℤ pos granule)
    → a ≤ℤ (b +ℤ pos 1)
floors_near {granule} {a} {b} one other near =
    by_lt_z {P = a ≤ℤ (b +ℤ pos 1)} (b +ℤ pos 1) a
    (λ more. let twice = two_more granule a b (omega (arith, ints, more)) in absurd (omega (arith, ints, twice, one.least, other.most, near)))
    (λ le. le)
