-- A text that ends at the first octet of a kind.
use Rattle.std.proofs.{Common.{◌++◌, ◌∙◌, ◌∷◌, ◌≡◌, Bool, List, [], ap, false, sym, true, ℕ}, lemmas.List.{append_cancel_left, Splits.slice_split_at}}
use Rattle.std.specs.{List.slice_split, Prelude.All}

-- no octet of the text passes the test
abbrev pub NonePasses : (ℕ → Bool) → List ℕ → Type 0
NonePasses test text = All (λ c. test c ≡ false) text

first_of_list : List (List ℕ) → List ℕ
first_of_list [] = []
first_of_list (x ∷ xs) = x

behind_first : List ℕ → List ℕ
behind_first [] = []
behind_first (x ∷ xs) = xs

-- what stands before and behind the first octet that passes
pub record IsSplit (front back front' back' : List ℕ) : Type 0 where
  pub fronts : front ≡ front'
  pub backs : back ≡ back'

-- two texts that are equal have one split at the first octet that passes
pub split_once : (test : ℕ → Bool) (mark : ℕ) (front back front' back' : List ℕ) → test mark ≡ true → NonePasses test front → NonePasses test front'
    → front ++ mark ∷ back ≡ front' ++ mark ∷ back' → IsSplit front back front' back'
unfolding first_of_list behind_first
split_once test mark front back front' back' passes none none' same =
    let at = slice_split_at test front mark back none passes in
    let at' = slice_split_at test front' mark back' none' passes in
    let fronts : front ≡ front' = ap first_of_list (sym at ∙ ap (slice_split test) same ∙ at') in
    let moved = same ∙ (rw (sym fronts)) in
    record { fronts = fronts; backs = ap behind_first (append_cancel_left front (mark ∷ back) (mark ∷ back') moved) }
