-- The order of records by their places, which are lists of numbers.
use Rattle.std.specs.Prelude.{◌&&◌, ◌++◌, ◌<◌, ◌==◌, ◌||◌, ◌∷◌, ◌≡◌, ◌⊎◌, Bool, List, [], false, nat_lt, true, ℕ}

-- the first place is before the second: their numbers are compared from the left, and a front of a place
-- is before it
abbrev pub IsBefore : List ℕ → List ℕ → Type 0
IsBefore xs [] = ⊥
IsBefore [] (y ∷ ys) = Unit {0}
IsBefore (x ∷ xs) (y ∷ ys) = (x < y) ⊎ ((x ≡ y) × IsBefore xs ys)

-- the same, as a test
abbrev pub is_before : List ℕ → List ℕ → Bool
is_before xs [] = false
is_before [] (y ∷ ys) = true
is_before (x ∷ xs) (y ∷ ys) = nat_lt x y || (x == y && is_before xs ys)

-- the record is one of the list
abbrev pub IsIn : {N : Type 0} → N → List N → Type 0
IsIn x [] = ⊥
IsIn x (y ∷ ys) = (x ≡ y) ⊎ IsIn x ys

-- each record of the list is before the place
abbrev pub AllBefore : {N : Type 0} → (N → List ℕ) → List N → List ℕ → Type 0
AllBefore {N} place ns p = (n : N) → IsIn n ns → IsBefore (place n) p

-- no record of the list is before the place
abbrev pub NoneBefore : {N : Type 0} → (N → List ℕ) → List N → List ℕ → Type 0
NoneBefore {N} place ns p = (n : N) → IsIn n ns → IsBefore (place n) p → ⊥

-- just behind the place: nothing is between the two
abbrev pub behind : List ℕ → List ℕ
behind p = p ++ 0 ∷ []
