-- The records of happenings that are founded are told as these happenings.
use Rattle.std.proofs.{Common.{◌++◌, ◌∙◌, ◌∷◌, ◌≡◌, List, [], ap, append_assoc, fold, inl, inr, map, refl, subst, sym}, lemmas.List.append-nil}
use Rattle.run_law.specs.{declared.note.Note.Note, records.{Happenings.{Happening, happening, happenings}, Order.IsIn, Ranks.place_of}, runs.DueRecords.IsDue}
use Rattle.run_law.specs.{runs.Runs.IsFounded, scenario.Scenarios.Scenario}

-- the records of happenings
abbrev pub notes_of : List Happening → List Note
notes_of hs = map (λ h. h.note) hs

pub told_from : (s : Scenario) (before hs : List Happening) → IsFounded place_of (IsDue s) (before ++ hs)
    → fold (λ bs note. bs ++ happening s.network bs note ∷ []) before (notes_of hs) ≡ before ++ hs
told_from s before [] founded = sym (append-nil before)
told_from s before (h ∷ hs) founded =
    let same : h ≡ happening s.network before h.note = (founded before hs h refl).1.same in
    let moved = append_assoc before (h ∷ []) hs in
    ap (λ x. fold (λ bs note. bs ++ happening s.network bs note ∷ []) (before ++ x ∷ []) (notes_of hs)) (sym same)
    ∙ told_from s (before ++ h ∷ []) hs (subst (IsFounded place_of (IsDue s)) (sym moved) founded)
    ∙ moved

pub told : (s : Scenario) (hs : List Happening) → IsFounded place_of (IsDue s) hs → happenings s.network (notes_of hs) ≡ hs
told s hs founded = told_from s [] hs founded

-- a record of happenings is that of one of them
pub note_in : (hs : List Happening) (note : Note) → IsIn note (notes_of hs) → (h : Happening) × IsIn h hs × (note ≡ h.note)
note_in [] note i = absurd i
note_in (h ∷ hs) note (inl e) = (h, inl refl, e)
note_in (h ∷ hs) note (inr i) =
    let rest = note_in hs note i in (rest.0, inr rest.1, rest.2)
