-- What numbers of 64 bits come to at a cycle.
use Rattle.switch_ports.proofs.Words.{if◌then◌else◌, ◌*ℤ◌, ◌*◌, ◌+ℤ◌, ◌+◌, ◌-ℤ◌, ◌^◌, ◌∙◌, ◌≡◌, ◌≤ℤ◌, ◌≤◌, Bool, None, Some, Units}
use Rattle.switch_ports.proofs.Words.{IsSmall, ap, arith, int_lt, ints, mul-le-mul_right, neg_ℤ, pos, reading_of, subst, sym, true, false, ℕ, ℤ}
use Rattle.std.{proofs.{Common.FitsSigned, Math.Nat.mul-le-mul_left, lemmas.Int.to_z-of_z}, specs.Int.w64}
use mir.Val.{of_z, to_z}

-- the number in 64 bits
abbrev pub wrapped : ℤ → ℤ
wrapped y = to_z w64 (of_z w64 y)

abbrev pub units : ℤ → Units
units y = record { 0 = y }

fits : (y : ℤ) → neg_ℤ (pos (2 ^ 61)) ≤ℤ y → y ≤ℤ pos (2 ^ 62 + 2 ^ 61) → FitsSigned w64 y
fits y low high = grind (arith, ints, low, high)

pub same : (y : ℤ) (k : ℕ) → y ≡ pos k → k ≤ 2 ^ 62 → wrapped y ≡ pos k
same y k is few = to_z-of_z w64 y (fits y (omega (arith, ints, is)) (omega (arith, ints, is, few))) ∙ is

-- so many lengths
product : (n len : ℕ) → n ≤ 2359296 → len ≤ 2 ^ 40 → n * len ≤ 2359296 * 2 ^ 40
product n len few short = omega (arith, mul-le-mul_right len few, mul-le-mul_left 2359296 short)

pub most_value : (n len more : ℕ) → n ≤ 2359296 → len ≤ 2 ^ 40 → more ≤ 2 ^ 40 → n * len + more ≤ 2 ^ 62
most_value n len more few short little = omega (arith, product n len few short, little)

module _ (f x : ℤ) (n len : ℕ) (is : f ≡ pos n) (also : x ≡ pos len) (few : n ≤ 2359296) (short : len ≤ 2 ^ 40) where
  times : wrapped f *ℤ wrapped x ≡ pos (n * len)
  times =
      ap (λ y. y *ℤ wrapped x) (same f n is (omega (arith, few))) ∙ ap (λ (y : ℤ). pos n *ℤ y)
      (same x len also (omega (arith, short)))

  pub times_fits : FitsSigned w64 (wrapped f *ℤ wrapped x)
  times_fits =
      subst (FitsSigned w64) (sym (times))
      (fits (pos (n * len)) (omega (arith, ints)) (omega (arith, ints, product n len few short)))

module _ (f x e : ℤ) (n len more : ℕ) (is : f ≡ pos n) (also : x ≡ pos len) (rest : e ≡ pos more) (few : n ≤ 2359296)
    (short : len ≤ 2 ^ 40) (little : more ≤ 2 ^ 43) where
  -- and a number more
  sum : wrapped (wrapped f *ℤ wrapped x) +ℤ wrapped e ≡ pos (n * len + more)
  sum =
      ap (λ y. y +ℤ wrapped e) (same _ (n * len) (times f x n len is also few short)
      (omega (arith, product n len few short)))
      ∙ ap (λ y. pos (n * len) +ℤ y) (same e more rest (omega (arith, little)))

  pub sum_fits : FitsSigned w64 (wrapped (wrapped f *ℤ wrapped x) +ℤ wrapped e)
  sum_fits =
      subst (FitsSigned w64) (sym (sum))
      (fits (pos (n * len + more)) (omega (arith, ints)) (omega (arith, ints, product n len few short, little)))

  pub sum_is : wrapped (wrapped (wrapped f *ℤ wrapped x) +ℤ wrapped e) ≡ (pos n *ℤ x) +ℤ e
  sum_is =
      same _ (n * len + more) (sum) (omega (arith, product n len few short, little))
      ∙ ap (λ y. pos (n * len) +ℤ y) (sym rest) ∙ ap (λ (y : ℤ). (pos n *ℤ y) +ℤ e) (sym also)

module _ (v a : ℤ) (most : ℕ) (is : v ≡ pos most) (few : most ≤ 2 ^ 62) (small : IsSmall a)
    (fit : FitsSigned w64 a) where
  -- a reading that a small adjustment leaves of a value
  less : wrapped v -ℤ wrapped a ≡ pos most -ℤ a
  less = ap (λ y. y -ℤ wrapped a) (same v most is few) ∙ ap (λ y. pos most -ℤ y) (to_z-of_z w64 a fit)

  pub less_fits : FitsSigned w64 (wrapped v -ℤ wrapped a)
  less_fits =
      let low = small.0 in
      let high = small.1 in
      subst (FitsSigned w64) (sym (less))
      (fits (pos most -ℤ a) (omega (arith, ints, low, high)) (omega (arith, ints, few, low, high)))

tested : (ch v : ℤ) (most : ℕ) → v ≡ pos most → most ≤ 2 ^ 62 → FitsSigned w64 ch → int_lt (wrapped ch) (wrapped v) ≡ int_lt ch (pos most)
tested ch v most is few fit = ap (λ (y : ℤ). int_lt y (wrapped v)) (to_z-of_z w64 ch fit) ∙ ap (λ (y : ℤ). int_lt ch y) (same v most is few)

pub comes : (v a ch : ℤ) (most : ℕ) → v ≡ pos most → most ≤ 2 ^ 62 → IsSmall a → FitsSigned w64 a → FitsSigned w64 ch
    → int_lt (wrapped ch) (wrapped v) ≡ true → Some (units (wrapped (wrapped v -ℤ wrapped a))) ≡ reading_of (pos most) a ch
comes v a ch most is few small fit fits_too below =
    ap (λ y. Some (units y)) (to_z-of_z w64 _ (less_fits v a most is few small fit) ∙ less v a most is few small fit)
    ∙ ap (λ (b : Bool). if b then Some (units (pos most -ℤ a)) else None) (sym below ∙ tested ch v most is few fits_too)

pub comes_not : (v a ch : ℤ) (most : ℕ) → v ≡ pos most → most ≤ 2 ^ 62 → FitsSigned w64 ch → int_lt (wrapped ch) (wrapped v) ≡ false
    → None ≡ reading_of (pos most) a ch
comes_not v a ch most is few fits_too reached =
    ap (λ (b : Bool). if b then Some (units (pos most -ℤ a)) else None) (sym reached ∙ tested ch v most is few fits_too)
