-- The greatest number of the elements of a list.
use Rattle.std.proofs.lemmas.Option.{slice_get_within}
use Rattle.net_plan.{proofs.Trees.{greatest_of_both, greatest_of_none}, specs.Bounds.IsGreatest}
use Rattle.{std.proofs.Common.{◌+◌, ◌<◌, ◌≡◌, ◌≤◌, ◌⊎◌, List, Some, arith, inl, inr, length, max, subst, ℕ}, tte_units.proofs.general_lemmas.Options.some_same}
use Rattle.std.{proofs.lemmas.Bool.cases_lt, specs.Prelude.slice_get}

module _ {X : Type 0} (P : X → ℕ → Type 0) (xs : List X) where
  -- the number is of an element
  abbrev pub IsAmong : ℕ → Type 0
  IsAmong n = (place : ℕ) × (x : X) × (slice_get xs place ≡ Some x) × P x n

  -- of one of the first ones
  abbrev pub IsAmongFirst : ℕ → ℕ → Type 0
  IsAmongFirst count n = (place : ℕ) × (x : X) × (place < count) × (slice_get xs place ≡ Some x) × P x n

  pub none_first : IsGreatest (IsAmongFirst 0) 0
  none_first = greatest_of_none (IsAmongFirst 0) (λ n h. let less = h.2 in omega (arith, less))

  earlier_or_this : (k : ℕ) (x : X) → slice_get xs k ≡ Some x → (n : ℕ) → IsAmongFirst (k + 1) n → IsAmongFirst k n ⊎ P x n
  earlier_or_this k x at n h = elim (cases_lt h.0 k) [
    | inl less ↦ inl (h.0, h.1, less, h.3, h.4)
    | inr most ↦
        let within = h.2 in
        let same : h.0 ≡ k = omega (arith, most, within) in
        let there : slice_get xs k ≡ Some h.1 = subst (λ (i : ℕ). slice_get xs i ≡ Some h.1) same h.3 in
        inr (subst (λ (y : X). P y n) (some_same h.1 x (slice_get xs k) there at) h.4)
  ]

  pub one_more : (k : ℕ) (x : X) (a b : ℕ) → slice_get xs k ≡ Some x → IsGreatest (IsAmongFirst k) a → IsGreatest (P x) b
      → IsGreatest (IsAmongFirst (k + 1)) (max a b)
  one_more k x a b at first this =
      greatest_of_both (IsAmongFirst k) (P x) (IsAmongFirst (k + 1)) first this (earlier_or_this k x at)
      (λ n h. let less = h.2 in (h.0, h.1, omega (arith, less), h.3, h.4)) (λ n h. (k, x, omega arith, at, h))

  pub all_first : (k m : ℕ) → length xs ≤ k → IsGreatest (IsAmongFirst k) m → IsGreatest IsAmong m
  all_first k m most g = record {
    most = λ n h. let within = slice_get_within xs h.0 h.1 h.2 in g.most n (h.0, h.1, omega (arith, within, most), h.2, h.3);
    reached = elim g.reached [ inl none ↦ inl none | inr h ↦ inr (h.0, h.1, h.3, h.4) ];
  }
