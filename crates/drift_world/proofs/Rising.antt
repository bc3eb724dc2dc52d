-- What is settled is in the order of its places.
use Rattle.drift_world.proofs.Words.{◌++◌, ◌∙◌, ◌∷◌, ◌≡◌, AreComing, Happening, InOrder, IsBefore, IsIn, List, Meaning}
use Rattle.drift_world.proofs.Words.{Note, Scenario, Stands, World, [], ap, append_assoc, chain, in_right, inl}
use Rattle.drift_world.proofs.Words.{never_self, parted, place_of, refl, sym, ℕ}

-- each is before all behind it
abbrev pub Rises : List Happening → Type 0
Rises [] = Unit {0}
Rises (x ∷ xs) = ((y : Happening) → IsIn y xs → IsBefore (place_of x) (place_of y)) × Rises xs

rise_in_order : (xs : List Happening) → Rises xs → InOrder xs
rise_in_order [] up = tt
rise_in_order (x ∷ xs) up = (
  λ y there before. never_self (place_of x) (chain (place_of x) (place_of y) (place_of x) (up.0 y there) before),
  rise_in_order xs up.1,
)

settled_rise : {s : Scenario} {hs coming : List Happening} {frontier : List ℕ} {now : ℕ}
    → AreComing s hs coming frontier now → (front xs : List Happening) → coming ≡ front ++ xs → Rises xs
settled_rise are front [] is = tt
settled_rise {coming} are front (x ∷ xs) is = (
  λ y there.
      let split = parted y xs there in
      let whole = is ∙ ap (λ l. front ++ x ∷ l) split.2
      ∙ sym (append_assoc front (x ∷ split.0) (y ∷ split.1)) in
      (are.founded (front ++ x ∷ split.0) split.1 y whole).0 x (in_right x front (x ∷ split.0) (inl refl)),
  settled_rise are (front ++ x ∷ []) xs (is ∙ sym (append_assoc front (x ∷ []) xs)),
)

-- what is settled of a world that stands is in order
pub settled_in_order : {C M : Type 0} {reading : C → ℕ → ℕ} {stands : Meaning M}
    {s : Scenario} {world : World C M} {notes : List Note} → Stands reading stands s world notes
    → InOrder world.settled
settled_in_order {world} old =
    rise_in_order world.settled (settled_rise old.are [] world.settled refl)
