-- What a name means.
use Rattle.{net_file.specs.Numbering.{MeansFirstBearer, first_of}, std.specs.{List.position_from, Prelude.{MatchOption, bytes_eq, is_some, slice_get}}}
use Rattle.{net_plan.specs.Bearers.{HasNoBearer, IsFirstBearer}, std.{proofs.lemmas.Bool.false≢true, specs.Cmp.Lexicographic.bytes_decides}}
use Rattle.std.proofs.Common.{◌+◌, ◌<◌, ◌∙◌, ◌∷◌, ◌≡◌, ◌≢◌, Bool, List, None, Option, Some, [], ap, arith, cond, false, refl, subst, suc, sym, true, zero, ℕ}
use Rattle.tte_units.proofs.general_lemmas.Lists.{same_name}

-- the answer of a search that begins its count at s
abbrev Finds : ℕ → List (List ℕ) → List ℕ → Option ℕ → Type 0
Finds s names text found = MatchOption found (HasNoBearer names text) (λ i. (k : ℕ) × (i ≡ s + k) × IsFirstBearer names text k)

none_in : (name : List ℕ) (names : List (List ℕ)) (text : List ℕ) → name ≢ text → HasNoBearer names text → HasNoBearer (name ∷ names) text
none_in name names text other none zero e = other (same_name name text e)
none_in name names text other none (suc k) e = none k e

none_before : (name : List ℕ) (names : List (List ℕ)) (text : List ℕ) (k : ℕ) → name ≢ text → IsFirstBearer names text k → (j : ℕ) → j < suc k
    → slice_get (name ∷ names) j ≢ Some text
none_before name names text k other first zero h e = other (same_name name text e)
none_before name names text k other first (suc j) h e = first.first j (omega arith) e

later : (s : ℕ) (name : List ℕ) (names : List (List ℕ)) (text : List ℕ) (found : Option ℕ) → name ≢ text → Finds (s + 1) names text found
    → Finds s (name ∷ names) text found
later s name names text None other h = none_in name names text other h
later s name names text (Some i) other h = (suc h.0, omega (arith, h.1), record { bears = h.2.bears; first = none_before name names text h.0 other h.2 })

here : (s : ℕ) (name : List ℕ) (names : List (List ℕ)) (text : List ℕ) → name ≡ text → Finds s (name ∷ names) text (Some s)
here s name names text e = (0, omega arith, record { bears = rw e; first = λ k h. absurd (omega arith) })

decide : (s : ℕ) (name : List ℕ) (names : List (List ℕ)) (text : List ℕ) (found : Option ℕ) (b : Bool) → bytes_eq text name ≡ b → Finds (s + 1) names text found
    → Finds s (name ∷ names) text (cond b (Some s) found)
decide s name names text found true e h = here s name names text (sym ((bytes_decides text name).0 e))
decide s name names text found false e h = later s name names text found (λ q. false≢true (sym e ∙ (bytes_decides text name).1 (sym q))) h

finds : (s : ℕ) (names : List (List ℕ)) (text : List ℕ) → Finds s names text (position_from (bytes_eq text) s names)
finds s [] text = λ k e. false≢true (ap is_some e)
finds s (name ∷ names) text = decide s name names text (position_from (bytes_eq text) (s + 1) names) (bytes_eq text name) refl (finds (s + 1) names text)

whole_list : (names : List (List ℕ)) (text : List ℕ) (found : Option ℕ) → Finds 0 names text found
    → MatchOption found (HasNoBearer names text) (IsFirstBearer names text)
whole_list names text None h = h
whole_list names text (Some i) h = subst (IsFirstBearer names text) (omega (arith, h.1)) h.2

pub means_first_bearer : MeansFirstBearer
means_first_bearer names text = whole_list names text (first_of names text) (finds 0 names text)
