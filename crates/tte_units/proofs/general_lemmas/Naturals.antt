-- Facts on natural numbers.
use Rattle.std.proofs.Common.{◌%◌, ◌*◌, ◌+◌, ◌/◌, ◌<◌, ◌∙◌, ◌≡◌, ◌≤◌, ◌⊎◌, arith, bit_or, false, inl, inr, max, refl, suc, sym, true, zero, ℕ}
use Rattle.std.proofs.{Math.Nat.mul-le-mul_right, lemmas.{Bool.{cases_eq, cases_lt, cases_order, eq-eqb, ne_eqb, Decides.eqb_tells}, Nat.or_shr}}
use Rattle.std.{proofs.lemmas.Nat.Bits.{bit_at_lowest, bit_at_or}, specs.{Int.byte_at, Ordering.{MatchOrdering, is_eq, ordering_then}, Prelude.◌==◌}}
use Rattle.std.specs.declared.cmp.Ordering.{Ordering, TheVariants.{Equal, Greater, Less}}

pub eqb_same : (n : ℕ) → (n == n) ≡ true
eqb_same n = grind (arith)

-- the index is an old one or the new one
pub below_next : (o n : ℕ) → o < n + 1 → (o < n) ⊎ (o ≡ n)
below_next o n lt = elim (cases_lt o n) [ inl less ↦ inl less | inr more ↦ inr (omega arith) ]

pub unequal : (a b : ℕ) → (a ≡ b → ⊥) → (a == b) ≡ false
unequal a b n = grind arith

pub less_than_next : (n m : ℕ) → n < m → n < m + 1
less_than_next n m h = omega arith

-- numbers below so many, and it
pub below_or_at : (i n next : ℕ) → next ≡ n + 1 → i < next → (i < n) ⊎ (i ≡ n)
below_or_at i n next e h = grind arith

pub none_less : (n : ℕ) → n < n → ⊥
none_less n h = omega arith

pub cmp_equal : (o : Ordering) (n m : ℕ) → MatchOrdering o (n < m) (n ≡ m) (m < n) → n ≡ m → o ≡ Equal
cmp_equal Less n m k e = absurd (omega arith)
cmp_equal Equal n m k e = refl
cmp_equal Greater n m k e = absurd (omega arith)

pub cases_of : (a b : ℕ) → (a < b) ⊎ ((a ≡ b) ⊎ (b < a))
cases_of a b = grind arith

pub flips : (x y : ℕ) → (x == y) ≡ (y == x)
flips x y =
    elim (cases_eq x y) [
      | inl e ↦ eq-eqb x y e ∙ sym (eq-eqb y x (sym e))
      | inr apart ↦ ne_eqb x y apart ∙ sym (ne_eqb y x (λ e. apart (sym e)))
    ]

-- what a number's bytes are: each is below 256
pub byte_at_small : (k n : ℕ) → byte_at k n < 256
byte_at_small zero n = omega arith
byte_at_small (suc k) n = omega arith

pub or_parity : (a b : ℕ) → bit_or a b % 2 ≡ max (a % 2) (b % 2)
or_parity a b = omega (arith, bit_at_or a b 0, bit_at_lowest (bit_or a b), bit_at_lowest a, bit_at_lowest b)

pub or_half : (a b : ℕ) → bit_or a b / 2 ≡ bit_or (a / 2) (b / 2)
or_half a b = or_shr a b 1

pub above_or_same : (i j : ℕ) → i ≤ j → (i < j) ⊎ (i ≡ j)
above_or_same i j h = grind arith

pub goes_on : (a b : ℕ) → b < a → (a == b) ≡ false
goes_on a b more = elim (eqb_tells a b) [ inl e ↦ absurd (omega (arith, e.1)) | inr e ↦ e.0 ]

pub cmp_same : (o q : Ordering) (a b c d : ℕ) → MatchOrdering o (a < b) (a ≡ b) (b < a) → MatchOrdering q (c < d) (c ≡ d) (d < c)
    → is_eq (ordering_then o q) ≡ true → (a ≡ b) × (c ≡ d)
cmp_same Less q a b c d m k e = absurd cc
cmp_same Equal Less a b c d m k e = absurd cc
cmp_same Equal Equal a b c d m k e = (m, k)
cmp_same Equal Greater a b c d m k e = absurd cc
cmp_same Greater q a b c d m k e = absurd cc

-- the first digits of equal numbers are equal
pub same_heads : (x y p r s : ℕ) → r < p → s < p → x * p + r ≡ y * p + s → x ≡ y
same_heads x y p r s small other same =
    elim (cases_order x y) [
      | inl equal ↦ equal
      | inr (inl less) ↦
          let top : (x + 1) * p ≤ y * p = mul-le-mul_right p (omega (arith, less)) in
          absurd (omega (arith, small, other, same, top))
      | inr (inr more) ↦
          let top : (y + 1) * p ≤ x * p = mul-le-mul_right p (omega (arith, more)) in
          absurd (omega (arith, small, other, same, top))
    ]
