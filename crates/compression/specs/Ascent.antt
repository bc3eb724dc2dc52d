-- Numbers in rising order.
use Rattle.std.specs.{List.last_or, Prelude.{◌-ℤ◌, ◌∷◌, ◌≤ℤ◌, IfSome, List, None, [], pos, slice_index_or, ℕ, ℤ, ⊤}}

-- each number is at least the one before it
abbrev pub IsAscending : List ℤ → Type 0
IsAscending [] = ⊤
IsAscending (p ∷ []) = ⊤
IsAscending (p ∷ q ∷ qs) = (p ≤ℤ q) × IsAscending (q ∷ qs)

-- p is not below the last of these
abbrev pub MayFollow : List ℤ → ℤ → Type 0
MayFollow ps p = IfSome (last_or None ps) (λ q. q ≤ℤ p)

-- the last of p and these
abbrev pub last_from : ℤ → List ℤ → ℤ
last_from p [] = p
last_from p (q ∷ qs) = last_from q qs

-- the last number less the first
abbrev pub spread : List ℤ → ℤ
spread [] = pos 0
spread (p ∷ ps) = last_from p ps -ℤ p

-- how far the number at i is above the first
abbrev pub offset_at : List ℤ → ℕ → ℤ
offset_at ps i = slice_index_or ps i (pos 0) -ℤ slice_index_or ps 0 (pos 0)
