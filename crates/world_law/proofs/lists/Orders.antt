-- Numbers and places are ordered.
use Rattle.world_law.proofs.Words.{◌<ℤ◌, ◌≤ℤ◌, ◌⊎◌, arith, cases_lt, inl, inr, ints, negsuc, pos, ℤ}

-- one of two numbers is less, or it is not
pub cases_int : (a b : ℤ) → (a <ℤ b) ⊎ (b ≤ℤ a)
cases_int (pos m) (pos n) = elim (cases_lt m n) [
  | inl lt ↦ inl (omega (arith, ints))
  | inr ge ↦
      inr (omega (arith, ints))
]
cases_int (pos m) (negsuc n) = inr (omega (arith, ints))
cases_int (negsuc m) (pos n) = inl (omega (arith, ints))
cases_int (negsuc m) (negsuc n) = elim (cases_lt n m) [
  | inl lt ↦ inl (omega (arith, ints))
  | inr ge ↦
      inr (omega (arith, ints))
]
