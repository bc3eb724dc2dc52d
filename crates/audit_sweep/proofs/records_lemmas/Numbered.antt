-- Looking up what is kept of a record by its number.
use Rattle.{audit_sweep.specs.declared.records.kept.KeptRecord.KeptRecord, std.proofs.lemmas.Option.{same_Some, slice_get-map, slice_get_past, slice_get_read}}
use Rattle.{audit_sweep.specs.records.Keeping.{record_of, records_of}, run_law.specs.records.Happenings.{Happening, numbered}, std.specs.Prelude.option_map}
use Rattle.std.proofs.Common.{◌-◌, ◌<◌, ◌∙◌, ◌≡◌, ◌≤◌, List, None, Option, Some, ap, arith, get_or, length, refl, slice_get, subst, suc, sym, ℕ}

from_some : {X Y : Type 0} (f : X → Y) (o : Option X) (y : Y) → option_map f o ≡ Some y → (x : X) × (o ≡ Some x) × (y ≡ f x)
from_some f None y e = absurd cc
from_some f (Some x) y e = (x, refl, sym (same_Some _ _ e))

pub from_none : {X Y : Type 0} (f : X → Y) (o : Option X) → option_map f o ≡ None → o ≡ None
from_none f None e = refl
from_none f (Some x) e = absurd cc

pub number_of : (number : ℕ) → (number ≡ 0 → ⊥) → number ≡ suc (number - 1)
number_of number n = grind (arith, n)

at_number : (hs : List Happening) (number : ℕ) → (number ≡ 0 → ⊥) → numbered hs number ≡ slice_get hs (number - 1)
at_number hs number n = ap (numbered hs) (number_of number n)

-- what is kept at a place is kept of the record of the next number
pub found : (hs : List Happening) (rs : List KeptRecord) (number : ℕ) (r : KeptRecord) → rs ≡ records_of hs → (number ≡ 0 → ⊥)
    → number - 1 < length rs → r ≡ get_or rs (number - 1) r → (h : Happening) × (numbered hs number ≡ Some h) × (r ≡ record_of h)
found hs rs number r e n lt at = grind (arith, slice_get, slice_get_read, length, from_some, slice_get-map, at_number)

-- where there is no such place there is no such record
pub past : (hs : List Happening) (rs : List KeptRecord) (number : ℕ) → rs ≡ records_of hs → (number ≡ 0 → ⊥) → length rs ≤ number - 1
    → numbered hs number ≡ None
past hs rs number e n le =
    let there : slice_get (records_of hs) (number - 1) ≡ None =
    subst (λ (xs : List KeptRecord). slice_get xs (number - 1) ≡ None) e (slice_get_past rs (number - 1) le) in
    at_number hs number n
    ∙ from_none record_of (slice_get hs (number - 1)) (sym (slice_get-map record_of hs (number - 1)) ∙ there)
