-- The run up to an earlier mark is the front of that up to a later one.
use Rattle.run_law.proofs.Words.{◌++◌, ◌∙◌, ◌∷◌, ◌≡◌, IsBefore, IsDetermined, IsRun, List, [], ap, append_assoc, inl, inr, refl, subst, sym, ℕ}
use Rattle.run_law.proofs.runs.{Lacking.{before_rest, lacking}, Places.{chain, either_way, in_right}}

front_from : {N : Type 0} {place : N → List ℕ} (IsDue : List N → N → Type 0) {mark later : List ℕ}
    → IsDetermined place IsDue → ((p : List ℕ) → IsBefore p mark → IsBefore p later) → (xs ys ps : List N)
    → IsRun place IsDue mark (ps ++ xs) → IsRun place IsDue later (ps ++ ys) → (rest : List N) × (ys ≡ xs ++ rest)
front_from IsDue one up [] ys ps a b = (ys, refl)
front_from {place} IsDue {later} one up (x ∷ xs) [] ps a b =
    let due = a.founded ps xs x refl in
    let here = up (place x) (a.within x (in_right x ps (x ∷ xs) (inl refl))) in
    absurd (lacking place IsDue later ps [] x b.full due.0 due.1 here (λ y i. absurd i))
front_from {N} {place} IsDue {mark} {later} one up (x ∷ xs) (y ∷ ys) ps a b =
    let due = a.founded ps xs x refl in
    let other = b.founded ps ys y refl in
    let here = a.within x (in_right x ps (x ∷ xs) (inl refl)) in
    elim (either_way (place x) (place y)) [
      | inl lt ↦ absurd (lacking place IsDue later ps (y ∷ ys) x b.full due.0 due.1 (up (place x) here) (before_rest place IsDue ps ys x y b.founded lt))
      | inr (inr gt) ↦ absurd (lacking place IsDue mark ps (x ∷ xs) y a.full other.0 other.1 (chain (place y) (place x) mark gt here)
          (before_rest place IsDue ps xs y x a.founded gt))
      | inr (inl e) ↦
          let same = one ps x y due.1 other.1 e in
          let left : IsRun place IsDue mark ((ps ++ x ∷ []) ++ xs) = subst (IsRun place IsDue mark) (sym (append_assoc ps (x ∷ []) xs)) a in
          let moved : IsRun place IsDue later (ps ++ x ∷ ys) = rw same b in
          let right : IsRun place IsDue later ((ps ++ x ∷ []) ++ ys) = subst (IsRun place IsDue later) (sym (append_assoc ps (x ∷ []) ys)) moved in
          let more = front_from IsDue one up xs ys (ps ++ x ∷ []) left right in
          (more.0, ap (λ t. t ∷ ys) (sym same) ∙ ap (λ (t : List N). x ∷ t) more.1)
    ]

pub front_of_run : {N : Type 0} {place : N → List ℕ} (IsDue : List N → N → Type 0) {mark later : List ℕ}
    → IsDetermined place IsDue → ((p : List ℕ) → IsBefore p mark → IsBefore p later) → {xs ys : List N}
    → IsRun place IsDue mark xs → IsRun place IsDue later ys → (rest : List N) × (ys ≡ xs ++ rest)
front_of_run IsDue one up {xs} {ys} a b = front_from IsDue one up xs ys [] a b
