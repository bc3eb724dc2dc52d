-- Numbers of 128 bits.
use Rattle.{audit_law.specs.collections.Small.IsSmall, std.{proofs.Common.{◌^◌, ◌≡◌, ◌≤ℤ◌, FitsSigned, arith, neg_ℤ, of_z, pos, refl, to_z, ℤ}, specs.Int.w128}}
use Rattle.{std.proofs.lemmas.Int.{ints, to_z-of_z}, tte_units.specs.Mean.mean_of}

-- sums of a few small numbers fit
pub fits_wide : (z : ℤ) → neg_ℤ (pos (2 ^ 100)) ≤ℤ z → z ≤ℤ pos (2 ^ 100) → FitsSigned w128 z
fits_wide z low high = grind (arith, ints)

pub fits_small : {z : ℤ} → IsSmall z → FitsSigned w128 z
fits_small is = grind (arith, ints, is.low, is.high)

-- the mean of two that were kept in 128 bits
pub mean_wide : {a b : ℤ} → IsSmall a → IsSmall b → mean_of (to_z w128 (of_z w128 a)) (to_z w128 (of_z w128 b))
    ≡ mean_of a b
mean_wide {a} {b} first second = rw (to_z-of_z w128 a (fits_small first), to_z-of_z w128 b (fits_small second)) refl
