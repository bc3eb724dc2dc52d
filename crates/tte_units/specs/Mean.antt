use Rattle.std.specs.{Int.int_div_euclid, Prelude.{◌+ℤ◌, ◌≤ℤ◌, pos, ℤ}}

-- the mean of two numbers, rounded towards minus infinity
abbrev pub mean_of : ℤ → ℤ → ℤ
mean_of a b = int_div_euclid (a +ℤ b) (pos 2)

-- m is the greatest number whose double is at most the sum
pub record IsMean (a b m : ℤ) : Type 0 where
  pub least : (m +ℤ m) ≤ℤ (a +ℤ b)
  pub most : (a +ℤ b) ≤ℤ ((m +ℤ m) +ℤ pos 1)
