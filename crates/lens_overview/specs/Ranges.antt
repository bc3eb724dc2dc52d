-- Lists by the places of what is in them.
use Rattle.std.specs.Prelude.{◌++◌, ◌∷◌, List, [], suc, zero, ℕ}

-- what there is at each place below this one, one after another
abbrev pub each_below : {X : Type 0} → (ℕ → X) → ℕ → List X
each_below x_at zero = []
each_below x_at (suc n) = each_below x_at n ++ x_at n ∷ []

-- the same, where there are some at each place
abbrev pub all_below : {X : Type 0} → (ℕ → List X) → ℕ → List X
all_below xs_at zero = []
all_below xs_at (suc n) = all_below xs_at n ++ xs_at n
