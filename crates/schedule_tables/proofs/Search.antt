-- A search among things in order, each with its numbers; and the first slot that is not below a bound.
use Rattle.schedule_tables.{specs.declared.slot.Slot.Slot}
use Rattle.schedule_tables.proofs.SlotLemmas
use SlotLemmas.{Compares, below_itself, below_mono, lt_false, lt_true, slot_cmp, slot_compares}
use Rattle.{schedule_tables.specs.Dispatches.IsBelow, std.{proofs.lemmas.Bool.{cases_Bool, cases_lt}, specs.{List.{AllPairs, Contains}, Prelude.slice_get}}}
use Rattle.{schedule_tables.specs.Slots.{AreBelow, AreInOrder, IsFirstSlot, key_of}, std.proofs.lemmas.Option.{get_or_from_slice_get, slice_get_within}}
use Rattle.std.proofs.Common.{◌∙◌, ◌≡◌, ◌≤◌, List, Some, ap, arith, false, get_or, is_lt, length, refl, sym, true, ℕ, ⊎_elim}
use Rattle.{std.specs.{List.Sorted.{IsPartitionPoint, IsPartitionedBy}, declared.cmp.Ordering.Ordering}, tte_units.proofs.general_lemmas.Naturals.above_or_same}

-- the comparison is that of the numbers, of which each thing has as many
pub record IsOrder {X : Type 0} (numbers : X → List ℕ) (cmp : X → X → Ordering) : Type 0 where
  pub compares : (x y : X) → Compares (cmp x y) (numbers x) (numbers y)
  pub as_many : (x y : X) → length (numbers x) ≡ length (numbers y)

-- nothing is below what stands before it
abbrev pub Ascends : {X : Type 0} → (X → List ℕ) → List X → Type 0
Ascends numbers xs = AllPairs (λ x later. IsBelow (numbers later) (numbers x) → ⊥) xs

-- where the search for a bound ends
abbrev pub Ends : {X : Type 0} → (X → X → Ordering) → List X → X → ℕ → Type 0
Ends cmp xs bound place = IsPartitionPoint (λ x. is_lt (cmp x bound) ≡ true) (λ x. is_lt (cmp x bound) ≡ false) xs place

-- what is below a bound stands first
pub parted : {X : Type 0} {numbers : X → List ℕ} {cmp : X → X → Ordering} → IsOrder numbers cmp
    → (bound : X) (xs : List X) → Ascends numbers xs → IsPartitionedBy (λ x. is_lt (cmp x bound)) xs
parted {numbers} {cmp} laws bound xs order i j d le within last =
    ⊎_elim
    (λ e. e)
    (λ e.
    ⊎_elim
    (λ l.
    let low = lt_true _ (numbers (get_or xs j d)) (numbers bound) (laws.compares (get_or xs j d) bound) last in
    let high = lt_false _ (numbers (get_or xs i d)) (numbers bound) (laws.compares (get_or xs i d) bound) e in
    absurd (order i j d l within (below_mono (numbers (get_or xs j d)) (numbers bound) (numbers (get_or xs i d)) (laws.as_many (get_or xs i d) bound) low
    high)))
    (λ s. rw s last)
    (above_or_same i j le))
    (cases_Bool (is_lt (cmp (get_or xs i d) bound)))

module _ {X : Type 0} {numbers : X → List ℕ} {cmp : X → X → Ordering} (laws : IsOrder numbers cmp) (xs : List X)
    (bound : X) (place : ℕ) (ends : Ends cmp xs bound place) (x : X) where
  -- what is not below the bound stands no earlier
  pub not_before : (has : Contains xs x) → (IsBelow (numbers x) (numbers bound) → ⊥) → place ≤ has.0
  not_before has out =
      ⊎_elim
      (λ l.
      absurd (out
      (lt_true _ (numbers x) (numbers bound) (laws.compares x bound)
      (rw (sym has.2) (ends.0 has.0 x (omega arith) l)))))
      (λ l. l)
      (cases_lt has.0 place)

  -- what stands there is not below it
  pub not_below : slice_get xs place ≡ Some x → IsBelow (numbers x) (numbers bound) → ⊥
  not_below at =
      lt_false _ (numbers x) (numbers bound) (laws.compares x bound)
      (rw (sym (get_or_from_slice_get xs place x x at))
      (ends.1 place x (omega arith) (slice_get_within xs place x at)))

-- nothing that stands no earlier than another is below it
pub no_earlier : {X : Type 0} (numbers : X → List ℕ) (xs : List X) → Ascends numbers xs → (place : ℕ) (x : X) → slice_get xs place ≡ Some x
    → (y : X) (has : Contains xs y) → place ≤ has.0 → IsBelow (numbers y) (numbers x) → ⊥
no_earlier numbers xs order place x at y has le below =
    let found = get_or_from_slice_get xs place x y at in
    ⊎_elim
    (λ l. order place has.0 y l has.1 (rw (found, has.2) below))
    (λ e.
    let same : y ≡ x = sym has.2 ∙ ap (λ k. get_or xs k y) (sym e) ∙ found in
    below_itself (numbers x) (rw same at below))
    (above_or_same place has.0 le)

-- ---- slots

pub slot_order : IsOrder key_of slot_cmp
slot_order = record { compares = slot_compares; as_many = λ s t. refl }

-- the slot where the search ends is the first
pub is_first : (slots : List Slot) (bound : Slot) (place : ℕ) → AreInOrder slots → Ends slot_cmp slots bound place → (s : Slot) → slice_get slots place ≡ Some s
    → IsFirstSlot slots bound s
is_first slots bound place order ends s at = record {
  there = (place, slice_get_within slots place s at, get_or_from_slice_get slots place s s at);
  from = not_below slot_order slots bound place ends s at;
  first = λ other has out. no_earlier key_of slots order place s at other has
      (not_before slot_order slots bound place ends other has out);
}

-- where it ends with the slots, there is none
pub none_left : (slots : List Slot) (bound : Slot) (place : ℕ) → Ends slot_cmp slots bound place → length slots ≤ place → AreBelow slots bound
none_left slots bound place ends past other has out =
    let after = not_before slot_order slots bound place ends other has out in
    omega (arith, has.1)
