-- There is one run, and what is due is its next record.
use Rattle.run_law.proofs.Words.{◌++◌, ◌∙◌, ◌∷◌, ◌≡◌, AllBefore, IsBefore, IsDetermined, IsIn, IsRun, List, NoneBefore, [], ap, inl, inr, refl, sym, ℕ}
use Rattle.{run_law.proofs.runs.{FrontOfRun.front_of_run, Lacking.behind_first, Places.{in_parts, never_self}}, tte_units.proofs.general_lemmas.Lists.fronts}

pub one_run : {N : Type 0} {place : N → List ℕ} (IsDue : List N → N → Type 0) {mark : List ℕ}
    → IsDetermined place IsDue → {xs ys : List N} → IsRun place IsDue mark xs → IsRun place IsDue mark ys → xs ≡ ys
one_run IsDue one {xs} {ys} a b =
    let more = front_of_run IsDue one (λ p before. before) a b in
    let rest = front_of_run IsDue one (λ p before. before) b a in
    fronts xs ys more.0 rest.0 more.1 rest.1

-- a record at the place of x can't be in the part before x
not_in_front : {N : Type 0} (place : N → List ℕ) (ps : List N) (x m : N) → AllBefore place ps (place x) → IsIn m ps → place m ≡ place x → ⊥
not_in_front place ps x m before i same = never_self (place x) (rw same at (before m i))

-- in a run, a record that is due given a part, behind all of it and before none of the rest, is the next
pub due_is_next : {N : Type 0} {place : N → List ℕ} (IsDue : List N → N → Type 0) {mark : List ℕ}
    → IsDetermined place IsDue → (ps qs : List N) (x : N) → IsRun place IsDue mark (ps ++ qs)
    → AllBefore place ps (place x) → NoneBefore place qs (place x) → IsDue ps x → IsBefore (place x) mark
    → (rest : List N) × (qs ≡ x ∷ rest)
due_is_next {place} IsDue one ps [] x run before none due here =
    let there = run.full ps [] x refl before none due here in
    elim (in_parts there.0 ps [] there.1) [ inl i ↦ absurd (not_in_front place ps x there.0 before i there.2) | inr i ↦ absurd i ]
due_is_next {place} IsDue one ps (q ∷ qs) x run before none due here =
    let there = run.full ps (q ∷ qs) x refl before none due here in
    elim (in_parts there.0 ps (q ∷ qs) there.1) [
      | inl i ↦ absurd (not_in_front place ps x there.0 before i there.2)
      | inr (inl e) ↦ (qs, rw (one ps q x (run.founded ps qs q refl).1 due (ap place (sym e) ∙ there.2)))
      | inr (inr i) ↦ absurd (none q (inl refl) (rw
          there.2 at (behind_first place IsDue ps qs q there.0 run.founded i)))
    ]
