-- How great the numbers of rows are.
use Rattle.std.proofs.Common.{◌*◌, ◌^◌, ◌≤◌, arith, ℕ}
use Rattle.std.proofs.Math.Nat.{mul-le-mul_left, mul-le-mul_right}

pub product_small : (a b : ℕ) → a ≤ 2 ^ 33 → b ≤ 64 → a * b ≤ 2 ^ 39
product_small a b few less = omega (arith, mul-le-mul_right b few, mul-le-mul_left (2 ^ 33) less)
