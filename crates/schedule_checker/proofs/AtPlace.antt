-- What is found at a place of a list, where the place is read.
use Rattle.std.{proofs.Common.{◌≡◌, Bool, List, None, Some, false, get_or, length, nat_lt, refl, sym, true, ℕ}, specs.Bool.Decides}
use Rattle.std.{proofs.lemmas.{Bool.{ltb-false, ltb-true}, Option.{slice_get_past, slice_get_read}}, specs.{List.slice_get, Prelude.{IfSome, IsSomeAnd}}}

at : {X : Type 0} (xs : List X) (i : ℕ) (x : X) → true ≡ nat_lt i (length xs) → x ≡ get_or xs i x → slice_get xs i ≡ Some x
at xs i x within is = slice_get_read xs (length xs) i x refl (ltb-true i (length xs) (sym within)) is

past : {X : Type 0} (xs : List X) (i : ℕ) → false ≡ nat_lt i (length xs) → slice_get xs i ≡ None
past xs i beyond = slice_get_past xs i (ltb-false i (length xs) (sym beyond))

-- the property is required of what is there, if anything is
pub if_there : {X : Type 0} (P : X → Type 0) (xs : List X) (i : ℕ) (x : X) (r : Bool) → true ≡ nat_lt i (length xs) → x ≡ get_or xs i x
    → Decides r (P x) → Decides r (IfSome (slice_get xs i) P)
if_there P xs i x r within is = rw (at xs i x within is) (λ found. found)

pub if_past : {X : Type 0} (P : X → Type 0) (xs : List X) (i : ℕ) → false ≡ nat_lt i (length xs) → Decides true (IfSome (slice_get xs i) P)
if_past P xs i beyond = rw (past xs i beyond) (λ yes. tt, λ none. refl)

-- something is there, and has the property
pub some_there : {X : Type 0} (P : X → Type 0) (xs : List X) (i : ℕ) (x : X) (r : Bool) → true ≡ nat_lt i (length xs) → x ≡ get_or xs i x
    → Decides r (P x) → Decides r (IsSomeAnd (slice_get xs i) P)
some_there P xs i x r within is = rw (at xs i x within is) (λ found. found)

pub none_past : {X : Type 0} (P : X → Type 0) (xs : List X) (i : ℕ) → false ≡ nat_lt i (length xs) → Decides false (IsSomeAnd (slice_get xs i) P)
none_past P xs i beyond = rw (past xs i beyond) (λ yes. absurd cc, λ none. absurd none)
