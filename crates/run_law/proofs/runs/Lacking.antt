-- What can't be missing from a run.
use Rattle.run_law.proofs.Words.{◌++◌, ◌∙◌, ◌∷◌, ◌≡◌, AllBefore, IsBefore, IsFounded, IsIn, List, ap, append_assoc, inl, inr, refl, sym, ℕ}
use Rattle.run_law.{proofs.runs.Places.{chain, in_parts, in_right, never_self, parted}, specs.runs.Runs.IsFull}

-- all that follows y in a founded list is behind it
pub behind_first : {N : Type 0} (place : N → List ℕ) (IsDue : List N → N → Type 0) (ps ys : List N) (y z : N) → IsFounded place IsDue (ps ++ y ∷ ys) → IsIn z ys
    → IsBefore (place y) (place z)
behind_first place IsDue ps ys y z founded i =
    let at = parted z ys i in
    let whole : ps ++ y ∷ ys ≡ (ps ++ y ∷ at.0) ++ z ∷ at.1 =
    ap (λ t. ps ++ y ∷ t) at.2 ∙ sym (append_assoc ps (y ∷ at.0) (z ∷ at.1)) in
    (founded (ps ++ y ∷ at.0) at.1 z whole).0 y (in_right y ps (y ∷ at.0) (inl refl))

-- what is before y is before it and all that follows it
pub before_rest : {N : Type 0} (place : N → List ℕ) (IsDue : List N → N → Type 0) (ps ys : List N) (x y : N) → IsFounded place IsDue (ps ++ y ∷ ys)
    → IsBefore (place x) (place y) → (z : N) → IsIn z (y ∷ ys) → IsBefore (place x) (place z)
before_rest place IsDue ps ys x y founded before z (inl e) = rw e before
before_rest place IsDue ps ys x y founded before z (inr i) = chain (place x) (place y) (place z) before (behind_first place IsDue ps ys y z founded i)

-- a record that is due before all that a full list has left can't be missing
pub lacking : {N : Type 0} (place : N → List ℕ) (IsDue : List N → N → Type 0) (mark : List ℕ) (ps ys : List N) (x : N) → IsFull place IsDue mark (ps ++ ys)
    → AllBefore place ps (place x) → IsDue ps x → IsBefore (place x) mark → ((y : N) → IsIn y ys → IsBefore (place x) (place y)) → ⊥
lacking place IsDue mark ps ys x full before due here first =
    let there = full ps ys x refl before (λ n i sooner. never_self (place x) (chain (place x) (place n) (place x) (first n i) sooner)) due here in
    elim (in_parts there.0 ps ys there.1) [
      | inl i ↦ never_self (place x) (rw there.2 at (before there.0 i))
      | inr i ↦ never_self (place x) (rw there.2 at (first there.0 i))
    ]
