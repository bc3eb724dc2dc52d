-- Lists of all things of a kind, and one more.
use Rattle.{lens_flows.specs.counts.Ordered.{AreAll, IsOrdered}, run_law.specs.records.Order.IsIn}
use Rattle.{run_law.proofs.runs.Places.{in_left, in_parts, in_right}, std.proofs.Common.{◌++◌, ◌∷◌, ◌≡◌, ◌⊎◌, List, [], inl, inr, refl, subst, sym}}

pub in_two : {X : Type 0} (x : X) (xs : List X) (y : X) → IsIn x (xs ++ y ∷ []) → IsIn x xs ⊎ (x ≡ y)
in_two {X} x xs y i =
    elim (in_parts x xs (y ∷ []) i) [
      | inl old ↦ inl old
      | inr new ↦ elim new [ inl same ↦ inr same | inr none ↦ absurd none ]
    ]

pub in_last : {X : Type 0} (x : X) (xs : List X) → IsIn x (xs ++ x ∷ [])
in_last {X} x xs = in_right x xs (x ∷ []) (inl refl)

ordered_more : {X : Type 0} (Before : X → X → Type 0) (xs : List X) (y : X) → IsOrdered Before xs → ((x : X) → IsIn x xs → Before x y)
    → IsOrdered Before (xs ++ y ∷ [])
ordered_more {X} Before [] y ordered all = ((λ z i. absurd i), tt)
ordered_more {X} Before (x ∷ xs) y ordered all = (
  λ z i. elim (in_two z xs y i) [
    | inl old ↦ ordered.0 z old
    | inr same ↦ subst (λ v. Before x v) (sym same) (all x (inl refl))
  ],
  ordered_more Before xs y ordered.1 (λ z i. all z (inr i)),
)

-- one more, which comes behind them
pub all_more : {X : Type 0} (IsSo IsNow : X → Type 0) (Before : X → X → Type 0) {xs : List X} (y : X)
    → AreAll IsSo Before xs → ((x : X) → IsSo x → IsNow x) → IsNow y → ((x : X) → IsNow x → IsSo x ⊎ (x ≡ y))
    → ((x : X) → IsSo x → Before x y) → AreAll IsNow Before (xs ++ y ∷ [])
all_more {X} IsSo IsNow Before {xs} y are wider here split before = record {
  each = λ x i. elim (in_two x xs y i) [
    | inl old ↦ wider x (are.each x old)
    | inr same ↦ subst IsNow (sym same) here
  ];
  all = λ x is. elim (split x is) [
    | inl old ↦ in_left x xs (y ∷ []) (are.all x old)
    | inr same ↦ subst (λ z. IsIn z (xs ++ y ∷ [])) (sym same) (in_last y xs)
  ];
  in_order = ordered_more Before xs y are.in_order (λ x i. before x (are.each x i));
}

pub all_same : {X : Type 0} (IsSo IsNow : X → Type 0) (Before : X → X → Type 0) {xs : List X} → AreAll IsSo Before xs
    → ((x : X) → IsSo x → IsNow x) → ((x : X) → IsNow x → IsSo x) → AreAll IsNow Before xs
all_same {X} IsSo IsNow Before are to back =
    record { each = λ x i. to x (are.each x i); all = λ x is. are.all x (back x is); in_order = are.in_order }

pub all_none : {X : Type 0} (IsSo : X → Type 0) (Before : X → X → Type 0) → ((x : X) → IsSo x → ⊥) → AreAll IsSo Before []
all_none {X} IsSo Before none = record { each = λ x i. absurd i; all = λ x is. absurd (none x is); in_order = tt }
