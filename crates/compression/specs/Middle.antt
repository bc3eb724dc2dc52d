-- The middle of a cluster's points.
use Rattle.std.specs.Prelude.{◌+ℤ◌, ◌-ℤ◌, ◌∷◌, ◌≤ℤ◌, ◌≤◌, ◌⊎◌, All, List, [], length, map, pos, ℤ, ⊤}
use Rattle.{compression.specs.Ascent.{IsAscending, last_from}, tte_units.specs.Mean.mean_of}

-- the points, relative to the first
abbrev pub relative : List ℤ → List ℤ
relative [] = []
relative (p ∷ ps) = map (λ q. q -ℤ p) (p ∷ ps)

-- the last but one of p, q and these
abbrev pub last_but_one : ℤ → ℤ → List ℤ → ℤ
last_but_one p q [] = p
last_but_one p q (r ∷ rs) = last_but_one q r rs

-- the middle of sorted points, by their number
abbrev pub middle_of : List ℤ → ℤ
middle_of [] = pos 0
middle_of (a ∷ []) = a
middle_of (a ∷ b ∷ []) = mean_of a b
middle_of (a ∷ b ∷ c ∷ []) = b
middle_of (a ∷ b ∷ c ∷ d ∷ []) = mean_of b c
middle_of (a ∷ b ∷ c ∷ d ∷ e ∷ []) = mean_of b d
middle_of (a ∷ b ∷ c ∷ d ∷ e ∷ f ∷ more) = mean_of b (last_but_one e f more)

-- the middle as a point
abbrev pub middle_point : List ℤ → ℤ
middle_point [] = pos 0
middle_point (p ∷ ps) = p +ℤ middle_of (relative (p ∷ ps))

-- x lies from low to high
abbrev pub LiesWithin : ℤ → ℤ → ℤ → Type 0
LiesWithin low high x = (low ≤ℤ x) × (x ≤ℤ high)

-- P holds of each number but one at most
abbrev pub AllButOne : (ℤ → Type 0) → List ℤ → Type 0
AllButOne P [] = ⊤
AllButOne P (x ∷ xs) = All P xs ⊎ (P x × AllButOne P xs)

-- of three or more sorted points one may be anywhere: the middle lies among the others
abbrev pub MiddleAmongOthers : Type 0
MiddleAmongOthers =
    (ps : List ℤ) (low high : ℤ) → 3 ≤ length ps → IsAscending ps → AllButOne (LiesWithin low high) ps
    → LiesWithin low high (middle_point ps)

-- the middle of any sorted points lies from the first to the last
abbrev pub MiddleFromFirstToLast : Type 0
MiddleFromFirstToLast =
    (p : ℤ) (ps : List ℤ) → IsAscending (p ∷ ps) → LiesWithin p (last_from p ps) (middle_point (p ∷ ps))
