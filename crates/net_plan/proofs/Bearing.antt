-- What a search by name finds is the first bearer.
use Rattle.std.proofs.Common.{◌<◌, ◌∙◌, ◌∷◌, ◌≡◌, ◌≢◌, List, MatchOption, Option, Some, [], ap, arith, length, map, refl, rules, suc, zero, ℕ}
use Rattle.std.{proofs.lemmas.Option.{get_or_from_slice_get, slice_get-get_or, slice_get-map, slice_get_within}, specs.List.{AllWithin, HoldsAt, slice_get}}
use Rattle.net_plan.specs.Bearers.{HasNoBearer, IsFirstBearer}

-- the element behind an element of a mapped list
pub behind : {X : Type 0} (f : X → List ℕ) (xs : List X) (k : ℕ) (y : List ℕ) → slice_get (map f xs) k ≡ Some y → (x : X) × (slice_get xs k ≡ Some x)
    × (f x ≡ y)
behind f [] k y e = search rules
behind f (x ∷ xs) zero y e = (x, refl, search rules)
behind f (x ∷ xs) (suc k) y e = behind f xs k y e

not_named : {X : Type 0} (f : X → List ℕ) (xs : List X) (name : List ℕ) (high : ℕ) → AllWithin (λ x. f x ≢ name) xs 0 high → (k : ℕ) → k < high
    → slice_get (map f xs) k ≢ Some name
not_named f xs name high h k below e =
    let b = behind f xs k name e in
    h k b.0 (omega arith) below (ap f (get_or_from_slice_get xs k b.0 b.0 b.1) ∙ b.2)

within_map : {X : Type 0} (f : X → List ℕ) (xs : List X) (name : List ℕ) (k : ℕ) → slice_get (map f xs) k ≡ Some name → k < length xs
within_map f xs name k e = let b = behind f xs k name e in slice_get_within xs k b.0 b.1

-- what `position` answers at a test of the name
abbrev pub IsSearched : {X : Type 0} → (X → List ℕ) → List X → List ℕ → Option ℕ → Type 0
IsSearched f xs name r =
    MatchOption r (AllWithin (λ x. f x ≢ name) xs 0 (length xs)) (λ i. (i < length xs) × HoldsAt (λ x. f x ≡ name) xs i × AllWithin (λ x. f x ≢ name) xs 0 i)

pub bearer_found : {X : Type 0} (f : X → List ℕ) (xs : List X) (name : List ℕ) (i : ℕ) → (i < length xs) × HoldsAt (λ x. f x ≡ name) xs i
    × AllWithin (λ x. f x ≢ name) xs 0 i → IsFirstBearer (map f xs) name i
bearer_found f [] name i h = absurd (omega (arith, h.0))
bearer_found f (x ∷ xs) name i h = record {
  bears = slice_get-map f (x ∷ xs) i ∙ ap (Rattle.std.specs.Option.option_map f) (slice_get-get_or (x ∷ xs) i x h.0) ∙
      (rw (h.1 x));
  first = not_named f (x ∷ xs) name i h.2;
}

pub no_bearer : {X : Type 0} (f : X → List ℕ) (xs : List X) (name : List ℕ) → AllWithin (λ x. f x ≢ name) xs 0 (length xs) → HasNoBearer (map f xs) name
no_bearer f xs name h k e = not_named f xs name (length xs) h k (within_map f xs name k e) e
