-- Lists of numbers with zeros behind them compare as the lists do.
use Rattle.std.proofs.Common.{◌∙◌, ◌∷◌, ◌≡◌, ◌≤◌, List, [], ap, arith, false, get_or, length, refl, suc, sym, take, true, zero, ℕ}
use Rattle.std.{proofs.lemmas.Bool.{le-ltb, lt-ltb, ne_eqb}, specs.Prelude.{drop, nat_lt}}
use Rattle.run_law.specs.{plain.Places.{AreZero, before_then}, records.Order.is_before}

-- zeros are before what is not only zeros, and then the rest counts
zeros_first : (xs ys : List ℕ) → length xs ≡ length ys → AreZero xs → before_then xs ys true ≡ true
zeros_first [] ys e z = refl
zeros_first (x ∷ xs) [] e z = absurd (omega arith)
zeros_first (x ∷ xs) (zero ∷ ys) e z = rw z.0 (zeros_first xs ys (omega arith) z.1)
zeros_first (x ∷ xs) (suc y ∷ ys) e z = rw (lt-ltb x (suc y) (omega (arith, z.0)))

-- nothing is before zeros
zeros_last : (xs ys : List ℕ) → length xs ≡ length ys → AreZero ys → before_then xs ys false ≡ false
zeros_last [] ys e z = refl
zeros_last (x ∷ xs) [] e z = absurd (omega arith)
zeros_last (zero ∷ xs) (y ∷ ys) e z = rw z.0 (zeros_last xs ys (omega arith) z.1)
zeros_last (suc x ∷ xs) (y ∷ ys) e z =
    rw (le-ltb (suc x) y (omega (arith, z.0)))
    (rw (ne_eqb (suc x) y (λ same. absurd (omega (arith, z.0)))))

more : (n m : ℕ) → nat_lt n m ≡ nat_lt (suc n) (suc m)
more n m = grind (arith)

pub padded : (n m : ℕ) (xs ys : List ℕ) → length xs ≡ length ys → n ≤ length xs → m ≤ length ys → AreZero (drop n xs) → AreZero (drop m ys)
    → is_before (take n xs) (take m ys) ≡ before_then xs ys (nat_lt n m)
padded zero zero xs ys e nl ml zx zy = sym (zeros_last xs ys e zy)
padded zero (suc m) xs [] e nl ml zx zy = absurd (omega arith)
padded zero (suc m) xs (y ∷ ys) e nl ml zx zy = sym (zeros_first xs (y ∷ ys) e zx) ∙ ap (before_then xs (y ∷ ys)) (sym (lt-ltb 0 (suc m) (omega arith)))
padded (suc n) zero [] ys e nl ml zx zy = absurd (omega arith)
padded (suc n) zero (x ∷ xs) ys e nl ml zx zy = sym (zeros_last (x ∷ xs) ys e zy) ∙ ap (before_then (x ∷ xs) ys) (sym (le-ltb (suc n) 0 (omega arith)))
padded (suc n) (suc m) [] ys e nl ml zx zy = absurd (omega arith)
padded (suc n) (suc m) (x ∷ xs) [] e nl ml zx zy = absurd (omega arith)
padded (suc n) (suc m) (x ∷ xs) (y ∷ ys) e nl ml zx zy =
    rw (padded n m xs ys (omega arith) (omega arith) (omega arith) zx zy
    ∙ ap (before_then xs ys) (more n m))

-- the first of them is the first of all, or zero
pub first : (n x : ℕ) (xs : List ℕ) → AreZero (drop n (x ∷ xs)) → x ≡ get_or (take n (x ∷ xs)) 0 0
first zero x xs z = z.0
first (suc n) x xs z = refl
