-- What a function makes of what it finds at a place of a list.
use Rattle.std.proofs.Common.{◌-◌, ◌∙◌, ◌≡◌, ◌≢◌, List, None, Some, ap, arith, false, get_or, length, nat_lt, refl, suc, sym, true, zero, ℕ}
use Rattle.device_rules.specs.frames.traced.Keeping.{at_number}
use Rattle.std.{proofs.lemmas.{Bool.{ltb-false, ltb-true}, Option.{slice_get_past, slice_get_read}}, specs.{List.slice_get, Option.option_map_or}}

-- it makes of what is there what the function does
pub made_there : {X Y : Type 0} (f : X → Y) (none : Y) (xs ys : List X) (i : ℕ) (x : X) → xs ≡ ys → true ≡ nat_lt i (length xs) → x ≡ get_or xs i x
    → f x ≡ option_map_or f (slice_get ys i) none
made_there f none xs ys i x same within is =
    let at = slice_get_read xs (length xs) i x refl (ltb-true i (length xs) (sym within)) is in
    sym (rw (sym same) ((rw at)))

-- nothing is there
pub made_past : {X Y : Type 0} (f : X → Y) (none : Y) (xs ys : List X) (i : ℕ) → xs ≡ ys → false ≡ nat_lt i (length xs)
    → none ≡ option_map_or f (slice_get ys i) none
made_past f none xs ys i same beyond =
    let at = slice_get_past xs i (ltb-false i (length xs) (sym beyond)) in
    sym (rw (sym same) ((rw at)))

-- the one of this number, from 1, and where there is none
from_one : {X : Type 0} (xs : List X) (n : ℕ) → n ≢ 0 → at_number xs n ≡ slice_get xs (n - 1)
from_one xs zero some = absurd (some refl)
from_one xs (suc k) some = ap (λ m. slice_get xs m) (omega arith)

pub numbered : {X : Type 0} (xs : List X) (n : ℕ) (x : X) → n ≢ 0 → true ≡ nat_lt (n - 1) (length xs) → x ≡ get_or xs (n - 1) x → Some x ≡ at_number xs n
numbered xs n x some within is = sym (from_one xs n some ∙ slice_get_read xs (length xs) (n - 1) x refl (ltb-true (n - 1) (length xs) (sym within)) is)

pub none_numbered : {X : Type 0} (xs : List X) (n : ℕ) → n ≢ 0 → false ≡ nat_lt (n - 1) (length xs) → None ≡ at_number xs n
none_numbered xs n some beyond = sym (from_one xs n some ∙ slice_get_past xs (n - 1) (ltb-false (n - 1) (length xs) (sym beyond)))
