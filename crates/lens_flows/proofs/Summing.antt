-- Sums of a number over a list.
use Rattle.lens_flows.specs.declared.counts.told.FlowTold.{FlowTold}
use Rattle.run_law.specs.records.Order.{IsIn}
use Rattle.std.proofs.Common.{◌+◌, ◌<◌, ◌∙◌, ◌∷◌, ◌≡◌, List, [], ap, arith, get_or, inl, inr, length, refl, sum_by, sym, take, ℕ}
use Rattle.std.proofs.lemmas.List.{Sums.{sum_by-cons, sum_by_push}, take_more}

-- with one more
pub sum_more : {X : Type 0} (f : X → ℕ) (all : List X) (d : X) (n sum one : ℕ) → n < length all → sum ≡ sum_by f (take n all) → one ≡ f (get_or all n d)
    → sum + one ≡ sum_by f (take (n + 1) all)
sum_more f all d n sum one within summed same =
    ap (λ k. sum + k) same
    ∙ ap (λ k. k + f (get_or all n d)) summed
    ∙ sym (sum_by_push f (take n all) (get_or all n d))
    ∙ ap (sum_by f) (sym (take_more all n d within))

-- of zeros
pub sum_none : {X : Type 0} (xs : List X) → sum_by (λ (x : X). 0) xs ≡ 0
sum_none [] = refl
sum_none {X} (x ∷ xs) = omega (arith, sum_by-cons (λ (y : X). 0) x xs, sum_none xs)

-- of numbers that are the same
pub sum_same : (f g : FlowTold → ℕ) (xs : List FlowTold) → ((x : FlowTold) → IsIn x xs → f x ≡ g x) → sum_by f xs ≡ sum_by g xs
sum_same f g [] same = refl
sum_same f g (x ∷ xs) same =
    omega (arith, sum_by-cons f x xs, sum_by-cons g x xs, same x (inl refl), sum_same f g xs (λ y i. same y (inr i)))
