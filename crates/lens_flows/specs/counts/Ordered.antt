-- All things of a kind, in their order, and how many times there are of one.
use Rattle.std.specs.Prelude.{◌≡◌, ℕ, ◌<◌, List, [], ◌∷◌, length}
use Rattle.run_law.specs.records.Order.{IsIn}

-- each comes before all that stand behind it
abbrev pub IsOrdered : {X : Type 0} → (X → X → Type 0) → List X → Type 0
IsOrdered {X} Before [] = Unit {0}
IsOrdered {X} Before (x ∷ xs) = ((y : X) → IsIn y xs → Before x y) × IsOrdered Before xs

-- these are all things of the kind, in their order
pub record AreAll {X : Type 0} (IsSo : X → Type 0) (Before : X → X → Type 0) (xs : List X) : Type 0 where
  pub each : (x : X) → IsIn x xs → IsSo x
  pub all : (x : X) → IsSo x → IsIn x xs
  pub in_order : IsOrdered Before xs

-- these are the times of the kind
abbrev pub AreTimes : (ℕ → Type 0) → List ℕ → Type 0
AreTimes IsSo ts = AreAll IsSo (λ t u. t < u) ts

-- there are so many of them
abbrev pub IsCountOf : (ℕ → Type 0) → ℕ → Type 0
IsCountOf IsSo n = (ts : List ℕ) × AreTimes IsSo ts × (n ≡ length ts)
