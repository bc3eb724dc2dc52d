-- Facts on integers.
use Rattle.std.proofs.{Common.{◌+ℤ◌, ◌-ℤ◌, ◌<ℤ◌, ◌≡◌, ◌≤ℤ◌, ◌≤◌, ap, arith, false, negsuc, pos, refl, true, unsigned_abs, ℕ, ℤ}, lemmas.Int.ints}
use Rattle.std.specs.Prelude.{int_le, int_lt}

pub through : (x y z : ℤ) → x ≤ℤ y → y ≤ℤ z → x ≤ℤ z
through x y z a b = omega (arith, ints)

-- a time from 0 on is its amount
pub whole : (a : ℤ) → pos 0 ≤ℤ a → a ≡ pos (unsigned_abs a)
whole (pos n) begun = refl
whole (negsuc n) begun = absurd (omega (arith, ints))

pub never_both : (x y : ℤ) → x <ℤ y → y ≤ℤ x → ⊥
never_both x y a b = omega (arith, ints)

pub from_zero : (low : ℕ) (z : ℤ) → pos low ≤ℤ z → z ≡ pos (unsigned_abs z)
from_zero low (pos n) h = refl
from_zero low (negsuc n) h = absurd (omega (arith, ints))

-- a whole number that is tested to be at most another is so
pub int_le-is : (a b : ℤ) → int_le a b ≡ true → a ≤ℤ b
int_le-is a b e = grind (arith, ints)

pub int_lt-is : (a b : ℤ) → int_lt a b ≡ true → a <ℤ b
int_lt-is a b e = grind (arith, ints)

pub int_lt-from : (a b : ℤ) → a <ℤ b → int_lt a b ≡ true
int_lt-from a b h = grind (arith, ints)

-- a number that fails the test is no less
pub not_less : (a b : ℤ) → int_lt a b ≡ false → b ≤ℤ a
not_less a b h = grind (arith, ints)

pub further : (x y z a : ℤ) → x ≤ℤ (y +ℤ a) → y ≤ℤ z → x ≤ℤ (z +ℤ a)
further x y z a h k = omega (arith, ints)

pub never_less : (x : ℤ) → x ≤ℤ x
never_less x = omega (arith, ints)

pub same_number : (a b : ℤ) → pos 0 ≤ℤ a → pos 0 ≤ℤ b → unsigned_abs a ≡ unsigned_abs b → a ≡ b
same_number (pos m) (pos n) begun after same = ap pos same
same_number (negsuc m) b begun after same = absurd (omega (arith, ints))
same_number (pos m) (negsuc n) begun after same = absurd (omega (arith, ints))

pub int_le-from : (a b : ℤ) → a ≤ℤ b → int_le a b ≡ true
int_le-from a b h = grind (arith, ints)

-- a number that is no less than another fails the test
pub not_below : (a b : ℤ) → b ≤ℤ a → int_lt a b ≡ false
not_below a b e = grind (arith, ints)

pub amount_least : (low : ℕ) (z : ℤ) → pos low ≤ℤ z → low ≤ unsigned_abs z
amount_least low (pos n) h = omega (arith, ints)
amount_least low (negsuc n) h = absurd (omega (arith, ints))

pub int_le-false : (a b : ℤ) → b <ℤ a → int_le a b ≡ false
int_le-false a b e = grind (arith, ints)

pub ahead_yet : (reading a changed v : ℤ) → changed ≡ (reading +ℤ a) → changed <ℤ v → reading <ℤ (v -ℤ a)
ahead_yet reading a changed v is lt = omega (arith, ints)
