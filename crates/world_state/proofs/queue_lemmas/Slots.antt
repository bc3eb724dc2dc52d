-- Places in a heap with their slots: how they are ordered, found, put in and taken out.
use Rattle.std.proofs.{Math.Seq.take-suc}
use Rattle.std.proofs.Common
use Common.{◌+◌, ◌<◌, ◌==◌, ◌∙◌, ◌∷◌, ◌≡◌, ◌≢◌, ◌⊎◌, Bor, List, None, Option, Some, [], ap, arith, false, get_or, inl}
use Common.{inr, is_some, length, map, nat_eq, refl, subst, suc, sym, take, true, zero, ℕ}
use Rattle.std.proofs.lemmas.{Bool.{both_ways, eq-eqb, eqb-false, le-ltb, lt-ltb, ne_eqb}}
use Rattle.std.proofs.lemmas.{Map.Keys.{IsDistinct-IsPermutation, IsDistinct-cons, IsDistinct-head, IsDistinct-tail}}
use Rattle.std.proofs.lemmas.List.{get_or_default}
use Rattle.std.proofs.lemmas.List.Sorted
use Sorted.{Contains-permutation, IsPermutation-map, IsPermutation-refl, IsPermutation-sym, length_permutation}
use Rattle.std.specs.{BinaryHeap.{IsUpperBound, KeepsHeap, PopsGreatest}}
use Rattle.std.specs.{List.{AllByRecursion, IsDistinct, Sorted.IsPermutation, cons_option, filter_map}}
use Rattle.std.specs.{Option.{option_copied, option_map, unwrap_or}, Ordering.{is_lt, nat_cmp, ordering_then}}
use Rattle.std.specs.{Prelude.IfSome, declared.cmp.{Ordering.{Ordering, TheVariants.{Equal, Less}}, Reverse.Reverse}}
use Rattle.run_law.proofs.{records.Order.{contains, given_of, is_given}, runs.Places.in_parts}
use Rattle.run_law.{specs.records.Order.{IsBefore, IsIn}}
use Rattle.slab.specs.Slab.{Slab, Updates, get}
use Rattle.tte_units.proofs.general_lemmas.Naturals.{flips}
use Rattle.world_state.specs.{declared.queue.{DueAt.DueAt, Entry.Entry, Slotted.Slotted}}
use Rattle.world_state.specs.queue.{Finding.{HoldsAt, HoldsNoneAt, IsPlaceFor, IsSlotFor, NoSlotFor}}
use Rattle.world_state.specs.queue.{Places.{IsFirst, first_entry, numbers_of}}
use Rattle.world_state.specs.queue.{Queues.{IsSound, compared, entries_in, entry_at, entry_of, reversed}}

-- ---- what is in a list, and in another with the same elements

pub in_contained : {X : Type 0} (xs : List X) (k : ℕ) {x : X} → k < length xs → get_or xs k x ≡ x → IsIn x xs
in_contained [] k lt e = absurd (omega arith)
in_contained (y ∷ xs) zero lt e = inl (sym e)
in_contained (y ∷ xs) (suc k) {x} lt e = inr (in_contained xs k (omega arith) e)

-- what is in a list is in one with the same elements
pub in_permuted : {X : Type 0} (xs ys : List X) (x : X) → IsPermutation xs ys → IsIn x xs → IsIn x ys
in_permuted xs ys x same there = let c = Contains-permutation xs ys x same (contains xs x there) in in_contained ys c.0 c.1 c.2

pub all_in : {X : Type 0} (P : X → Type 0) (xs : List X) → AllByRecursion P xs → (x : X) → IsIn x xs → P x
all_in P [] all x there = absurd there
all_in P (y ∷ xs) all x (inl e) = subst P (sym e) all.0
all_in P (y ∷ xs) all x (inr rest) = all_in P xs all.1 x rest

-- ---- what a function gives of each

some_is : {Y : Type 0} (o : Option Y) (d : Y) → is_some o ≡ true → o ≡ Some (unwrap_or o d)
some_is None d some = absurd (both_ways false refl some)
some_is (Some y) d some = refl

module _ {X Y : Type 0} (h : X → Option Y) where
  as_map : (d : Y) (xs : List X) → ((x : X) → IsIn x xs → is_some (h x) ≡ true)
      → filter_map h xs ≡ map (λ x. unwrap_or (h x) d) xs
  as_map d [] some = refl
  as_map d (x ∷ xs) some =
      rw (some_is (h x) d (some x (inl refl)))
      (rw (as_map d xs (λ y there. some y (inr there))))

  by_default : (xs ys : List X) → IsPermutation xs ys → ((x : X) → IsIn x xs → is_some (h x) ≡ true) → Y
      → IsPermutation (filter_map h xs) (filter_map h ys)
  by_default xs ys same some d =
      let there = as_map d ys (λ y inside. some y (in_permuted ys xs y (IsPermutation-sym xs ys same) inside)) in
      rw (as_map d xs some) (rw there (IsPermutation-map (λ x. unwrap_or (h x) d) xs ys same))

  from_first : (xs ys : List X) (o : Option Y) → is_some o ≡ true
      → (Y → IsPermutation (filter_map h xs) (filter_map h ys)) → IsPermutation (filter_map h xs) (filter_map h ys)
  from_first xs ys None some by = absurd (both_ways false refl some)
  from_first xs ys (Some y) some by = by y

  -- of the same elements it gives the same
  pub permuted_map : (xs ys : List X) → IsPermutation xs ys → ((x : X) → IsIn x xs → is_some (h x) ≡ true)
      → IsPermutation (filter_map h xs) (filter_map h ys)
  permuted_map [] [] same some = IsPermutation-refl []
  permuted_map [] (y ∷ ys) same some = absurd (omega (arith, length_permutation [] (y ∷ ys) same))
  permuted_map (x ∷ xs) ys same some =
      from_first (x ∷ xs) ys (h x) (some x (inl refl)) (by_default (x ∷ xs) ys same some)

  pub length_map : (xs : List X) → ((x : X) → IsIn x xs → is_some (h x) ≡ true) → length (filter_map h xs) ≡ length xs
  length_map [] some = refl
  length_map (x ∷ xs) some = grind (arith, is_some, length, both_ways, (length_map xs (λ y there. some y (inr there))))

pub same_map : {X Y : Type 0} (g h : X → Option Y) (xs : List X) → ((x : X) → IsIn x xs → g x ≡ h x) → filter_map g xs ≡ filter_map h xs
same_map g h [] same = refl
same_map g h (x ∷ xs) same = rw (same x (inl refl))
    (ap (cons_option (h x)) (same_map g h xs (λ y there. same y (inr there))))

-- ---- numbers that differ

pub all_apart : {X : Type 0} (f : X → ℕ) (k : ℕ) (xs : List X) → ((x : X) → IsIn x xs → f x ≢ k) → AllByRecursion (λ y. (k == y) ≡ false) (map f xs)
all_apart f k [] apart = tt
all_apart f k (x ∷ xs) apart = (ne_eqb k (f x) (λ e. apart x (inl refl) (sym e)), all_apart f k xs (λ y there. apart y (inr there)))

pub each_apart : {X : Type 0} (f : X → ℕ) (k : ℕ) (xs : List X) → AllByRecursion (λ y. (k == y) ≡ false) (map f xs) → (x : X) → IsIn x xs → f x ≢ k
each_apart f k [] all x there = absurd there
each_apart f k (y ∷ xs) all x (inl e) = λ same. eqb-false k (f y) all.0 (sym same ∙ ap f e)
each_apart f k (y ∷ xs) all x (inr rest) = each_apart f k xs all.1 x rest

-- ---- what is found by its rank and its cause

-- each of them is one of them
pub is_one : (places : List (Reverse Slotted)) (i : ℕ) (d : Reverse Slotted) → i < length places → IsIn (get_or places i d) places
is_one places i d lt = in_contained places i lt (get_or_default places i (get_or places i d) d lt)

-- one more place that is not meant
pub none_more : (places : List (Reverse Slotted)) (i : ℕ) (d : Reverse Slotted) (rank cause : ℕ) → i < length places
    → (IsPlaceFor rank cause (get_or places i d).0.place → ⊥) → NoSlotFor (take i places) rank cause → NoSlotFor (take (i + 1) places) rank cause
none_more places i d rank cause lt other none =
    let one = get_or places i d in
    let next : suc i ≡ i + 1 = omega arith in
    let more = sym (take-suc places i d lt) ∙ ap (λ k. take k places) next in
    rw (sym more) (λ r there fits. elim (in_parts r (take i places) (one ∷ []) there) [
      | inl before ↦ none r before fits
      | inr (inl same) ↦ other (rw same at fits)
      | inr (inr nothing) ↦ absurd nothing
    ])

module _ {T : Type 0} where
  content_is : (place : DueAt) (o : Option T) {e : Entry T} → option_map (entry_at place) o ≡ Some e → (o ≡ Some e.content) × (place ≡ e.place)
  content_is place None is = absurd cc
  content_is place (Some content) {e} is =
      let same : entry_at place content ≡ e = cc in
      (ap (λ f. Some f.content) same, ap Entry.place same)

  -- what a slot of the place has is due there
  pub holds_at : (s : Slab T) {items : List (Reverse Slotted)} {rank cause slot : ℕ} {content : T} → IsSlotFor items rank cause slot
      → get s slot ≡ Some content → HoldsAt (entries_in s items) rank cause content
  holds_at s {items} {content} found is =
      let place = found.slotted.0.place in
      record {
        entry = entry_at place content;
        there = is_given (entry_of s) items found.slotted (entry_at place content) found.there
            (ap (option_map (entry_at place)) (ap (get s) found.at ∙ is));
        fits = found.fits;
        is = refl;
      }

  -- where no place is meant, nothing is due there
  pub holds_none : (s : Slab T) (items : List (Reverse Slotted)) (rank cause : ℕ) → NoSlotFor items rank cause → HoldsNoneAt (entries_in s items) rank cause
  holds_none s items rank cause none e there fits =
      let of = given_of (entry_of s) items e there in
      none of.0 of.1 (subst (IsPlaceFor rank cause) (sym ((content_is of.0.0.place (get s of.0.0.slot) of.2).1)) fits)

  -- what a slab gives of the slot is due there
  pub found_in : (s : Slab T) {items : List (Reverse Slotted)} {rank cause slot : ℕ} → IsSlotFor items rank cause slot → (o : Option (Bor T))
      → option_copied o ≡ get s slot → IfSome o (λ content. HoldsAt (entries_in s items) rank cause content.now)
  found_in s found None is = tt
  found_in s {items} {rank} {cause} {slot} found (Some content) is = holds_at s found (sym is)

-- ---- what is before another place compares as less

less : (x y : ℕ) → x < y → nat_cmp x y ≡ Less
less x y lt = rw (lt-ltb x y lt)

equal : (x y : ℕ) → x ≡ y → nat_cmp x y ≡ Equal
equal x y e = rw (le-ltb x y (omega arith))
    (rw (eq-eqb x y e))

-- by the first number, or by the others
then_less : (x y : ℕ) (more : Ordering) (P : Type 0) → (x < y) ⊎ ((x ≡ y) × P) → (P → more ≡ Less) → ordering_then (nat_cmp x y) more ≡ Less
then_less x y more P (inl lt) rest = rw (less x y lt)
then_less x y more P (inr h) rest = rw (equal x y h.0) (rest h.1)

last_less : (x y : ℕ) → (x < y) ⊎ ((x ≡ y) × ⊥) → nat_cmp x y ≡ Less
last_less x y (inl lt) = less x y lt
last_less x y (inr h) = absurd h.1

before_is_less : (p q : DueAt) → IsBefore (numbers_of p) (numbers_of q) → compared p q ≡ Less
before_is_less p q b =
    then_less p.at q.at _ _ b (λ b. then_less p.rank q.rank _ _ b
    (λ b. then_less p.device q.device _ _ b (λ b. then_less p.link q.link _ _ b (λ b. last_less p.cause q.cause b))))

-- what the first is not less than is not before it
pub not_before : (x y : Reverse Slotted) → is_lt (reversed x y) ≡ false → IsBefore (numbers_of y.0.place) (numbers_of x.0.place) → ⊥
not_before x y late b = both_ways _ late (rw (before_is_less y.0.place x.0.place b))

-- ---- places in a heap with their slots: one is put in, and the first is taken out

abbrev pub slot_of : Reverse Slotted → ℕ
slot_of r = r.0.slot

module _ {T : Type 0} where
  some_mapped : (place : DueAt) (o : Option T) → is_some o ≡ true → is_some (option_map (entry_at place) o) ≡ true
  some_mapped place None some = absurd (both_ways false refl some)
  some_mapped place (Some content) some = refl

  pub some_entry : (s : Slab T) (r : Reverse Slotted) → is_some (get s r.0.slot) ≡ true → is_some (entry_of s r) ≡ true
  some_entry s r some = some_mapped r.0.place (get s r.0.slot) some

  place_or : Option (Entry T) → DueAt → DueAt
  place_or None p = p
  place_or (Some e) p = e.place

  place_mapped : (place : DueAt) (o : Option T) → place_or (option_map (entry_at place) o) place ≡ place
  unfolding place_or
  place_mapped place None = refl
  place_mapped place (Some content) = refl

  -- the place of an entry is that of its slot
  place_of_entry : (s : Slab T) (r : Reverse Slotted) {e : Entry T} → entry_of s r ≡ Some e → e.place ≡ r.0.place
  unfolding place_or
  place_of_entry s r is = ap (λ o. place_or o r.0.place) (sym is) ∙ place_mapped r.0.place (get s r.0.slot)

  pub length_entries : {s : Slab T} {items : List (Reverse Slotted)} → IsSound s items → length (entries_in s items) ≡ length items
  length_entries {s} {items} sound = length_map (entry_of s) items (λ r there. some_entry s r (sound.filled r there))

  some_is_slots : (o : Option (Entry T)) → is_some o ≡ true → (e : Entry T) × (o ≡ Some e)
  some_is_slots None some = absurd (both_ways false refl some)
  some_is_slots (Some e) some = (e, refl)

  -- the top is the first
  pub top_is_first : {s : Slab T} {items : List (Reverse Slotted)} (top : Reverse Slotted) → IsSound s items → IsIn top items
      → IsUpperBound reversed top items → IsFirst (entries_in s items) top.0.place
  top_is_first {s} {items} top sound there bound =
      let at_top = some_is_slots (entry_of s top) (some_entry s top (sound.filled top there)) in
      record {
        entry = at_top.0;
        there = is_given (entry_of s) items top at_top.0 there at_top.1;
        at = place_of_entry s top at_top.1;
        none = λ other inside before.
            let of = given_of (entry_of s) items other inside in
            not_before top of.0 (all_in (λ y. is_lt (reversed top y) ≡ false) items bound of.0 of.1)
            (rw (place_of_entry s of.0 of.2) at before);
      }

  -- ---- one is put in

  module _ {old : Slab T} (new : Slab T) {items : List (Reverse Slotted)} (after : List (Reverse Slotted)) (place : DueAt) (slot : ℕ) (content : T) (sound : IsSound old items)
      (vacant : get old slot ≡ None) (updates : Updates old new slot (Some content))
      (same : IsPermutation (record { 0 = record { place = place; slot = slot } } ∷ items) after) where
    no_other : (r : Reverse Slotted) → IsIn r items → r.0.slot ≢ slot
    no_other r there e = both_ways _ (ap is_some (ap (get old) e ∙ vacant)) (sound.filled r there)

    still_filled : (r : Reverse Slotted) → IsIn r (record { 0 = record { place = place; slot = slot } } ∷ items) → is_some (get new r.0.slot) ≡ true
    still_filled r (inl e) = ap is_some (ap (λ r. get new r.0.slot) e ∙ updates.changed)
    still_filled r (inr there) = ap is_some (updates.others r.0.slot (no_other r there)) ∙ sound.filled r there

    pub put_is_sound : KeepsHeap reversed items after → IsSound new after
    put_is_sound keeps =
        record {
          heap = keeps sound.heap;
          filled = λ r there. still_filled r (in_permuted _ _ r (IsPermutation-sym _ _ same) there);
          apart = IsDistinct-IsPermutation nat_eq flips _ _ (IsPermutation-map slot_of _ _ same)
              (IsDistinct-cons nat_eq slot (map slot_of items) (all_apart slot_of slot items no_other) sound.apart);
        }

    pub put_entries : IsPermutation (entry_at place content ∷ entries_in old items) (entries_in new after)
    put_entries =
        rw (ap (λ (o : Option T). cons_option (option_map (entry_at place) o) (entries_in new items)) updates.changed
        ∙ ap (λ (l : List (Entry T)). entry_at place content ∷ l)
        (same_map (entry_of new) (entry_of old) items (λ r there. ap (option_map (entry_at r.0.place))
        (updates.others r.0.slot (no_other r there))))) at (permuted_map (entry_of new) _ after same
        (λ r there. some_entry new r (still_filled r there)))

  -- ---- the first is taken out

  module _ {old : Slab T} (new : Slab T) {items : List (Reverse Slotted)} (after : List (Reverse Slotted)) (top : Reverse Slotted) {content : T} (sound : IsSound old items)
      (held : get old top.0.slot ≡ Some content) (updates : Updates old new top.0.slot None) (same : IsPermutation items (top ∷ after)) where
    distinct : IsDistinct nat_eq (map slot_of (top ∷ after))
    distinct = IsDistinct-IsPermutation nat_eq flips _ _ (IsPermutation-map slot_of _ _ same) sound.apart

    others_apart : (r : Reverse Slotted) → IsIn r after → r.0.slot ≢ top.0.slot
    others_apart = each_apart slot_of top.0.slot after (IsDistinct-head nat_eq top.0.slot (map slot_of after) distinct)

    pub taken_is_sound : PopsGreatest reversed items top after → IsSound new after
    taken_is_sound pops =
        record {
          heap = (pops sound.heap).0;
          filled = λ r there. ap is_some (updates.others r.0.slot (others_apart r there))
              ∙ sound.filled r (in_permuted _ _ r (IsPermutation-sym _ _ same) (inr there));
          apart = IsDistinct-tail nat_eq top.0.slot (map slot_of after) distinct;
        }

    pub taken_entries : IsPermutation (entries_in old items) (entry_at top.0.place content ∷ entries_in new after)
    taken_entries =
        rw (ap (λ (o : Option T). cons_option (option_map (entry_at top.0.place) o) (entries_in old after)) held
        ∙ ap (λ (l : List (Entry T)). entry_at top.0.place content ∷ l)
        (same_map (entry_of old) (entry_of new) after (λ r there. ap (option_map (entry_at r.0.place))
        (sym (updates.others r.0.slot (others_apart r there)))))) at (permuted_map (entry_of old) items _ same
        (λ r there. some_entry old r (sound.filled r there)))

-- ---- what stands before the others is on the top

module _ {T : Type 0} where
  head_of : (o : Option (Entry T)) (l : List (Entry T)) → is_some o ≡ true → first_entry (cons_option o l) ≡ o
  head_of None l some = absurd (both_ways _ refl some)
  head_of (Some e) l some = refl

  -- the first of what is due is what is due at the top
  pub head_is : {s : Slab T} (items : List (Reverse Slotted)) {top : Reverse Slotted} → IsSound s items → 0 < length items → top ≡ get_or items 0 top
      → first_entry (entries_in s items) ≡ entry_of s top
  head_is [] sound lt is = absurd (omega arith)
  head_is {s} (x ∷ items) sound lt is = head_of (entry_of s x) (entries_in s items) (some_entry s x (sound.filled x (inl refl))) ∙ ap (entry_of s) (sym is)

  if_head : {entries : List (Entry T)} (o : Option (Entry T)) {place : DueAt} → first_entry entries ≡ o → IsFirst entries place
      → option_map (λ e. e.place) o ≡ Some place → IfSome (first_entry entries) (λ e. IsFirst entries e.place)
  if_head None is first same = absurd cc
  if_head {entries} (Some e) {place} is first same =
      let at : place ≡ e.place = cc in
      rw is (subst (IsFirst entries) at first)

  place_mapped_heads : (place : DueAt) (o : Option T) → is_some o ≡ true → option_map (λ e. e.place)
      (option_map (entry_at place) o) ≡ Some place
  place_mapped_heads place None some = absurd (both_ways _ refl some)
  place_mapped_heads place (Some content) some = refl

  pub head_first : {s : Slab T} {items : List (Reverse Slotted)} (top : Reverse Slotted) → IsSound s items → is_some (get s top.0.slot) ≡ true
      → first_entry (entries_in s items) ≡ entry_of s top → IsFirst (entries_in s items) top.0.place
      → IfSome (first_entry (entries_in s items)) (λ e. IsFirst (entries_in s items) e.place)
  head_first {s} {items} top sound some is first = if_head (entry_of s top) is first
      (place_mapped_heads top.0.place (get s top.0.slot) some)
