-- The ones of a number are its bits that are set.
use Rattle.std.proofs.Common.{◌%◌, ◌*◌, ◌+◌, ◌/◌, ◌<◌, ◌==◌, ◌^◌, ◌∙◌, ◌∷◌, ◌≡◌, Bool, List, [], add-one, ap, arith, bit_or, cond, count_by, count_ones, refl}
use Rattle.{std.proofs.{Common.{suc, sym, zero, ℕ}, Math.Nat.pow-suc, lemmas.Bool.Decides.nat_tests}, tte_units.specs.declared.frames.members.Members.Members}
use Rattle.{std.proofs.lemmas.{List.Sums.sum_by-cons, Nat.{and_le_l, ones_le_self, or_disjoint}}, tte_units.proofs.general_lemmas.Naturals.{or_half, or_parity}}
use Rattle.{std.proofs.lemmas.Nat.Bits.{bit_at-lt, bit_at-suc, bit_at_lowest}, sync_state.specs.membership.Members.{IsMember, count_of, single, union}}
use Rattle.std.specs.{Int.{Count.ones_step, bit_at}, List.range_with_len}

count_agrees : (p q : ℕ → Bool) (xs : List ℕ) → ((i : ℕ) → p i ≡ q i) → count_by p xs ≡ count_by q xs
count_agrees p q [] same = refl
count_agrees p q (x ∷ xs) same =
    let here : cond (p x) 1 0 ≡ cond (q x) 1 0 = ap (λ (b : Bool). let n : ℕ = cond b 1 0 in n) (same x) in
    omega (arith, here, count_agrees p q xs same, sum_by-cons (λ i. cond (p i) 1 0) x xs, sum_by-cons (λ i. cond (q i) 1 0) x xs)

count_shifted : (p : ℕ → Bool) (a k : ℕ) → count_by p (range_with_len (a + 1) k) ≡ count_by (λ i. p (i + 1)) (range_with_len a k)
count_shifted p a zero = refl
count_shifted p a (suc k) =
    omega (
      arith,
      count_shifted p (a + 1) k,
      sum_by-cons (λ i. cond (p i) 1 0) (a + 1) (range_with_len (a + 1 + 1) k),
      sum_by-cons (λ i. cond (p (i + 1)) 1 0) a
          (range_with_len (a + 1) k),
    )

lowest : (n : ℕ) → cond (n / 2 ^ 0 % 2 == 1) 1 0 ≡ n % 2
lowest n = grind (arith, nat_tests)

next_bit : (n i : ℕ) → (bit_at n (i + 1) == 1) ≡ (bit_at (n / 2) i == 1)
next_bit n i = rw (ap (bit_at n) (add-one i) ∙ bit_at-suc n i)

pub ones_by_bits : (k n : ℕ) → n < 2 ^ k → count_ones n ≡ count_by (λ i. bit_at n i == 1) (range_with_len 0 k)
ones_by_bits zero n small = omega (arith, ones_le_self n)
ones_by_bits (suc k) n small =
    let bit : ℕ → Bool = λ i. bit_at n i == 1 in
    let rest =
    count_shifted bit 0 k ∙ count_agrees (λ i. bit (i + 1)) (λ i. bit_at (n / 2) i == 1) (range_with_len 0 k) (next_bit n) in
    let half : n / 2 < 2 ^ k = omega (arith, pow-suc 2 k) in
    omega (
      arith,
      ones_step n,
      lowest n,
      ones_by_bits k (n / 2) half,
      sum_by-cons (λ i. cond (bit i) 1 0) 0
          (range_with_len 1 k),
    )

or_zero : (n : ℕ) → bit_or 0 n ≡ n
or_zero n = omega (arith, or_disjoint 0 n (omega (arith, and_le_l 0 n)))

-- a bit that is set anew is one more
ones-set : (k n : ℕ) → bit_at n k ≡ 0 → count_ones (bit_or (2 ^ k) n) ≡ count_ones n + 1
ones-set zero n clear =
    let half = or_half 1 n ∙ or_zero (n / 2) in
    omega (arith, ones_step (bit_or 1 n), ones_step n, ap count_ones half, or_parity 1 n, bit_at_lowest n)
ones-set (suc k) n clear =
    let next = sym (bit_at-suc n k) ∙ clear in
    let power : 2 ^ suc k ≡ 2 * 2 ^ k = omega (arith, pow-suc 2 k) in
    let half : bit_or (2 ^ suc k) n / 2 ≡ bit_or (2 ^ k) (n / 2) = or_half (2 ^ suc k) n ∙ ap (λ (a : ℕ). bit_or a (n / 2)) (omega (arith, power)) in
    omega (
      arith,
      ones_step (bit_or (2 ^ suc k) n),
      ones_step n,
      ap count_ones half,
      or_parity (2 ^ suc k) n,
      ones-set k
          (n / 2) next,
    )

-- a master that is not in the set makes it one larger
pub count_of-union_single : (k : ℕ) (m : Members) → ¬ IsMember k m → count_of (union (single k) m) ≡ count_of m + 1
count_of-union_single k m out = ones-set k m.0 (omega (arith, bit_at-lt m.0 k))
