-- A record that bears on nothing else is put in among those of its instant.
use Rattle.world_law.proofs.Words.{◌++◌, ◌<◌, ◌∙◌, ◌∷◌, ◌≡◌, ◌≤◌, Bool, DeviceId, Happening, List, NoteBody}
use Rattle.world_law.proofs.Words.{[], arith, bears_on}
use Rattle.world_law.proofs.Words.{false, filter, filter-append, fold}
use Rattle.world_law.proofs.Words.{length}
use Rattle.world_law.proofs.Words.{numbered, rank, refl, slice_get, suc, sym}
use Rattle.world_law.proofs.Words.{zero, ℕ}
use Rattle.run_law.specs.declared.note.NoteBody.TheVariants as notes

-- a record that bears on no device, and is taken by none
abbrev pub IsIdle : NoteBody → Type 0
IsIdle (notes.Left device link cause clock) = Unit {0}
IsIdle (notes.Lost device link cause) = Unit {0}
IsIdle (notes.Dropped device link cause reason) = Unit {0}
IsIdle (notes.Clock device reading adjustment state) = Unit {0}
IsIdle other = ⊥

-- ---- what it does not change

pub idle_bears : (device : DeviceId) (body : NoteBody) → IsIdle body → bears_on device body ≡ false
idle_bears device (notes.Left other by from clock) i = refl
idle_bears device (notes.Lost other by from) i = refl
idle_bears device (notes.Dropped other by from reason) i = refl
idle_bears device (notes.Clock other reads adjusted state) i = refl
idle_bears device other i = absurd i

pub idle_rank : (body : NoteBody) → IsIdle body → 8 ≤ rank body
idle_rank (notes.Left other by from clock) i = omega arith
idle_rank (notes.Lost other by from) i = omega arith
idle_rank (notes.Dropped other by from reason) i = omega arith
idle_rank (notes.Clock other reads adjusted state) i = omega arith
idle_rank other i = absurd i

-- ---- lists

pub drop_one : {X : Type 0} (q : X → Bool) (xs bs : List X) (w : X) → q w ≡ false → filter q (xs ++ w ∷ bs) ≡ filter q (xs ++ bs)
drop_one q xs bs w e =
    filter-append q xs (w ∷ bs) ∙ (rw e (sym (filter-append q xs bs)))

pub fold_skip : {B : Type 0} (f : B → Happening → B) (u : Happening → Bool) (as_ bs : List Happening) (w : Happening) → ((b : B) → f b w ≡ b) → (z : B)
    → fold f z (filter u (as_ ++ w ∷ bs)) ≡ fold f z (filter u (as_ ++ bs))
fold_skip {B} f u [] bs w same z =
    search arith
fold_skip {B} f u (a ∷ as_) bs w same z = grind (arith, fold, filter, (fold_skip f u as_ bs w same (f z a)), (fold_skip f u as_ bs w same z))

get_prefix : (hs xs : List Happening) (i : ℕ) → i < length hs → slice_get (hs ++ xs) i ≡ slice_get hs i
get_prefix [] xs i lt = absurd (omega arith)
get_prefix (h ∷ hs) xs zero lt = refl
get_prefix (h ∷ hs) xs (suc i) lt = get_prefix hs xs i (omega arith)

pub numbered_prefix : (hs xs : List Happening) (n : ℕ) → n ≤ length hs → numbered (hs ++ xs) n ≡ numbered hs n
numbered_prefix hs xs zero le = refl
numbered_prefix hs xs (suc i) le = get_prefix hs xs i (omega arith)
