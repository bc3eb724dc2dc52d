use Rattle.{std.{proofs.{Common.{◌+ℤ◌, arith, negsuc, pos, ℤ}, lemmas.Int.ints}, specs.Int.int_div_euclid}, tte_units.specs.Mean.{IsMean, mean_of}}

half-floor : (s : ℤ) → IsMean s (pos 0) (int_div_euclid s (pos 2))
half-floor (pos n) = record { least = omega (arith, ints); most = omega (arith, ints) }
half-floor (negsuc n) = record { least = omega (arith, ints); most = omega (arith, ints) }

-- the mean is the floor of half the sum
pub mean_of-floor : (a b : ℤ) → IsMean a b (mean_of a b)
mean_of-floor a b =
    let h = half-floor (a +ℤ b) in
    record { least = omega (arith, ints, h.least); most = omega (arith, ints, h.most) }
