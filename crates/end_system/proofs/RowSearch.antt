-- The search for the dispatch of a device that comes next.
use Rattle.std.proofs.{Common.{◌-◌, ◌/◌}, Math.Nat.{div-add-mod, mod-lt}}
use Rattle.std.proofs.{lemmas.{Bool.cases_lt, List.Elements.All-contains, Option.get_or_from_slice_get}}
use Rattle.end_system.{specs.{Deeds.{IsSooner, Leaves}, RowSlots.{IsFirstFrom, IsNextFrom, IsSlotIn}}}
use Rattle.end_system.proofs.{Corrections.{done_now, done_still, was_done}, Ripe.at_least, Tasks.later_value}
use Rattle.end_system.proofs.Words
use Words.{◌%◌, ◌*◌, ◌++◌, ◌+◌, ◌-ℤ◌, ◌<ℤ◌, ◌<◌, ◌^◌, ◌∙◌, ◌∷◌, ◌≡◌, ◌≤ℤ◌, ◌≤◌, AreRowsOf, ClockTask, Contains}
use Words.{DeviceId, Dispatch, IsAtSlot, IsBelow, IsDispatch, IsInRange, IsOwnOf, IsSlotOf, List, Network, None, Option}
use Words.{Own, OwnRows, Row, RowId, SentBy, Slot, Some, Standing, SyncPlan, Synchronised, Units, [], amount}
use Words.{amount_most, ap, arith, dispatching, in_all, inl, inr, ints, key_of, mul-le-mul_left, mul-le-mul_right}
use Words.{numbers_of, option_map_or, pos, refl, slice_get, slice_get_within, subst, suc, sym, turn_of, value_of, zero}
use Words.{ℕ, ℤ, ⊎_elim}
use Rattle.run_law.specs.machines.Tasks.{offset_of}
use Rattle.schedule_tables.proofs.{Search.no_earlier}
use Rattle.schedule_tables.proofs.SlotLemmas
use SlotLemmas.{below_more, below_one_way, in_range, not_below_more, place_is as row_place_is, same_or_below}
use Rattle.schedule_tables.specs.{Dispatches.dispatch_order, Slots.{AreBelow, IsFirstSlot, place_by}}
use Rattle.schedule_tables.specs.{declared.slot.DispatchPlace.DispatchPlace}
use Rattle.tte_units.proofs.general_lemmas.{Lists.{none_in, period_divides}, Naturals.cases_of}

-- ---- the first dispatch of a device that comes no earlier than a bound

module _ {network : Network} {device : DeviceId} {rows : OwnRows} (slot : Slot) (are : AreRowsOf network device rows)
    (there : Contains rows.slots.items slot) where
  -- each slot is of the device's rows
  pub is_of : IsSlotOf network (SentBy device) slot
  is_of = All-contains (IsSlotOf network (SentBy device)) rows.slots.items slot are.slots.sound there

  -- and names it
  pub device_is : slot.device ≡ rows.device
  device_is =
      let is = is_of in
      sym is.source ∙ is.among.0 ∙ sym are.owner

-- slots of one device are compared by their turns
by_turns : (s t : Slot) → s.device ≡ t.device → IsBelow (key_of s) (key_of t) → IsBelow (turn_of s) (turn_of t)
by_turns s t same (inl less) = let e = ap (λ (d : DeviceId). d.0) same in absurd (omega (arith, e, less))
by_turns s t same (inr (_, below)) = below

by_keys : (s t : Slot) → s.device ≡ t.device → IsBelow (turn_of s) (turn_of t) → IsBelow (key_of s) (key_of t)
by_keys s t same below = inr (ap (λ (d : DeviceId). d.0) same, below)

-- the numbers of a cycle and of a slot in it, in 64 cycles
in_block : (first n c r q : ℕ) → first % 64 ≡ 0 → c ≡ first + q → q < 64 → r ≡ n % 64 → first ≤ n → n ≤ c → (n < c → r < q) × (n ≡ c → r ≡ q)
in_block first n c r q a b d e f g = (λ h. omega arith, λ h. omega arith)

-- what has no earlier turn comes no earlier in the 64 cycles
least_here : (first : ℕ) (s t : Slot) (n : ℕ) → first % 64 ≡ 0 → s.residue < 64 → t.residue ≡ n % 64 → first ≤ n
    → (n < first + 64 → IsBelow (turn_of t) (turn_of s) → ⊥) → IsBelow (n ∷ numbers_of t.place) ((first + s.residue) ∷ numbers_of s.place) → ⊥
least_here first s t n whole small residue from later below = grind (arith, numbers_of, in_block)

module _ {network : Network} {device : DeviceId} (own : Own) {rows : OwnRows} (adjustment : ℤ) (first : ℕ)
    (bound : Slot) (next : Dispatch) (are : AreRowsOf network device rows) (same : bound.device ≡ rows.device) where
  -- the search's answer, where a slot is not below the bound
  pub first_here : IsFirstSlot rows.slots.items bound next.slot → first % 64 ≡ 0 → next.slot.residue < 64
      → next.cycle ≡ first + next.slot.residue → next.at.0
      ≡ (pos (next.cycle * amount own.plan.cycle_length + next.slot.place.offset) -ℤ adjustment)
      → IsNextFrom own rows adjustment first bound next
  first_here found whole small cycle time =
      let of = device_is next.slot are found.there in
      record {
        slot = record { there = found.there; residue = omega (arith, small, cycle, whole) };
        from = record { reached = omega (arith, cycle); behind = λ lt below. found.from (by_keys next.slot bound (of ∙ sym same) below) };
        least = λ slot n is from below.
            let it = device_is slot are is.there in
            least_here first next.slot slot n whole small is.residue from.reached
            (λ lt low. found.first slot is.there (λ under. from.behind lt (by_turns slot bound (it ∙ sym same) under))
            (by_keys slot next.slot (it ∙ sym of) low))
            (subst (λ (k : ℕ). IsBelow (n ∷ numbers_of slot.place) (k ∷ numbers_of next.slot.place)) cycle below);
        at = time;
      }

  -- the search's answer, where all slots are below the bound
  pub first_later : AreBelow rows.slots.items bound → first % 64 ≡ 0 → slice_get rows.slots.items 0 ≡ Some next.slot
      → next.slot.residue < 64 → next.cycle ≡ first + 64 + next.slot.residue
      → next.at.0 ≡ (pos (next.cycle * amount own.plan.cycle_length + next.slot.place.offset) -ℤ adjustment)
      → IsNextFrom own rows adjustment first bound next
  first_later none whole at small cycle time =
      let there : Contains rows.slots.items next.slot =
      (0, slice_get_within rows.slots.items 0 next.slot at, get_or_from_slice_get rows.slots.items 0 next.slot next.slot at) in
      let of = device_is next.slot are there in
      record {
        slot = record { there = there; residue = omega (arith, small, cycle, whole) };
        from = record { reached = omega (arith, cycle); behind = λ lt. absurd (omega (arith, lt, cycle)) };
        least = λ slot n is from below.
            let it = device_is slot are is.there in
            least_here (first + 64) next.slot slot n (omega (arith, whole)) small is.residue
            (⊎_elim
            (λ (lt : n < first + 64). absurd (none slot is.there
            (λ under. from.behind lt (by_turns slot bound (it ∙ sym same) under))))
            (λ (le : first + 64 ≤ n). le)
            (cases_lt n (first + 64)))
            (λ lt low. no_earlier key_of rows.slots.items are.slots.order 0 next.slot at slot is.there (omega arith)
            (by_keys slot next.slot (it ∙ sym of) low))
            (subst (λ (k : ℕ). IsBelow (n ∷ numbers_of slot.place) (k ∷ numbers_of next.slot.place)) cycle below);
        at = time;
      }

-- ---- numbers

-- the cycles of 64 from one on
pub block_fits : (first residue c : ℕ) → first * c ≤ 2 ^ 62 + 2 ^ 46 → residue < 64 → c ≤ 2 ^ 40 → (first + residue) * c ≤ 2 ^ 62 + 2 ^ 47
block_fits first residue c h small most = let k : residue * c ≤ residue * 2 ^ 40 = mul-le-mul_left residue most in omega (arith, h, k)

pub next_block : (first c : ℕ) → first * c ≤ 2 ^ 62 → c ≤ 2 ^ 40 → (first + 64) * c ≤ 2 ^ 62 + 2 ^ 46
next_block first c h most = omega (arith, h)

pub few_cycles : (first c : ℕ) → first * c ≤ 2 ^ 62 → 2 ^ 32 ≤ c → first ≤ 2 ^ 30
few_cycles first c h long = let k : first * 2 ^ 32 ≤ first * c = mul-le-mul_left first long in omega (arith, h, k)

-- a slot's place lies in its range
pub slot_offset : {network : Network} (device : DeviceId) {slot : Slot} → IsInRange network
    → IsSlotOf network (SentBy device) slot → slot.place.offset ≤ 2 ^ 40
slot_offset {network} device {slot} range is =
    let in_range = in_range network slot.place.row.0 is.entry range is.is in
    subst (λ (p : DispatchPlace). p.offset ≤ 2 ^ 40) (sym is.place) (amount_most in_range.row.offset)

-- what is known of a slot at a place
pub slot_at : {network : Network} {device : DeviceId} {rows : OwnRows} (place : ℕ) (slot : Slot)
    → AreRowsOf network device rows → slice_get rows.slots.items place ≡ Some slot
    → IsSlotOf network (SentBy device) slot
slot_at {network} {device} {rows} place slot are at =
    in_all (IsSlotOf network (SentBy device)) rows.slots.items place slot are.slots.sound at

-- ---- the dispatch that comes next, among the slots of a device: slots, and rows that leave in a cycle

-- the slot of a row that leaves in the cycle
abbrev slot_of : (network : Network) (device : DeviceId) (row : RowId) (cycle : ℕ) → Leaves network device row cycle → Slot
slot_of network device row cycle h = record { device = device; residue = cycle % 64; place = place_by h.entry row }

residue_small : (cycle : ℕ) → cycle % 64 < 64
residue_small cycle = omega arith

module _ (network : Network) (device : DeviceId) where
  is_slot : {own : Own} {row : RowId} {cycle : ℕ} → IsOwnOf network device own
      → (h : Leaves network device row cycle) → IsSlotOf network (SentBy device) (slot_of network device row cycle h)
  is_slot {cycle} is h = record {
    entry = h.entry;
    is = h.is;
    place = refl;
    source = h.leaves;
    among = (h.leaves, h.sender);
    residue = residue_small cycle;
    in_phase = period_divides cycle h.entry.vl.period (is.periods h.entry.row.vl.0 h.entry.vl h.is.vl).0
        ∙ h.occurs.in_phase;
  }

  -- it is among the slots
  slot_in : {own : Own} {rows : OwnRows} {row : RowId} {cycle : ℕ} → IsOwnOf network device own
      → AreRowsOf network device rows → (h : Leaves network device row cycle)
      → IsSlotIn rows (slot_of network device row cycle h) cycle
  slot_in {row} {cycle} is are h =
      record { there = are.slots.complete (slot_of network device row cycle h) (is_slot is h); residue = refl }

  -- the slot's row leaves in each cycle of its residue
  leaves : {own : Own} {slot : Slot} (cycle : ℕ) → IsOwnOf network device own → IsSlotOf network (SentBy device) slot
      → slot.residue ≡ cycle % 64 → 1 ≤ cycle → Leaves network device slot.place.row cycle
  leaves cycle is of residue begun = record {
    entry = of.entry;
    is = of.is;
    leaves = of.among.0;
    occurs = record {
      begun = begun;
      in_phase =
          sym (period_divides cycle of.entry.vl.period (is.periods of.entry.row.vl.0 of.entry.vl of.is.vl).0)
          ∙ (ap (λ (n : ℕ). n % of.entry.vl.period) (sym residue) ∙ of.in_phase);
    };
    sender = of.among.1;
  }

  -- the row's place is that of its slot
  place_is : {slot : Slot} → IsSlotOf network (SentBy device) slot
      → dispatch_order network slot.place.row ≡ numbers_of slot.place
  place_is {slot} of = row_place_is slot.place.row of.is ∙ ap numbers_of (sym of.place)

  offset_is : {slot : Slot} → IsSlotOf network (SentBy device) slot
      → offset_of network slot.place.row ≡ slot.place.offset
  offset_is of =
      ap (λ (o : Option Row). option_map_or (λ (r : Row). amount r.offset) o 0) of.is.row ∙ ap
      (λ (p : DispatchPlace). p.offset) (sym of.place)

  length_is : {own : Own} → IsOwnOf network device own → amount own.plan.cycle_length ≡ amount network.cycle
  length_is is = ap (λ (p : SyncPlan). amount p.cycle_length) is.plan

  -- the slot's place lies well before the cycle's end
  short : {own : Own} {slot : Slot} → IsOwnOf network device own → IsSlotOf network (SentBy device) slot
      → slot.place.offset + 4 * amount network.precision ≤ amount own.plan.cycle_length
  short {slot} is of =
      let h = is.early slot.place.row (slot.residue + 64)
      (leaves (slot.residue + 64) is of (again slot.residue of.residue)
      (later slot.residue)) in
      omega (arith, h, offset_is of, length_is is)
    where
      again : (r : ℕ) → r < 64 → r ≡ (r + 64) % 64
      again r small = omega (arith, small)

      later : (r : ℕ) → 1 ≤ r + 64
      later r = omega arith

-- where the dispatch is one of the slots', at the reading of the search
is_at : {network : Network} {device : DeviceId} {own : Own} {rows : OwnRows} (s : Standing) (adjustment : Units)
    {first : ℕ} {bound : Slot} {next : Dispatch} → IsOwnOf network device own
    → IsSlotOf network (SentBy device) next.slot → s.adjustment ≡ adjustment
    → IsNextFrom own rows adjustment.0 first bound next
    → next.at.0 ≡ (value_of network (dispatching next.slot.place.row next.cycle) -ℤ s.adjustment.0)
is_at s adjustment is of same found = grind (arith, length_is, amount, offset_is, value_of, dispatching)

-- ---- the first behind a local value

same_block : (first cycle n : ℕ) → first ≡ cycle - cycle % 64 → first ≤ n → n < cycle → (n < first + 64) × (n % 64 < cycle % 64)
same_block first cycle n e a b = (omega arith, omega arith)

module _ (value c first cycle n offset link row : ℕ) (some : 0 < c) (is : cycle ≡ value / c)
    (from : first ≡ cycle - cycle % 64) where
  -- what is not below the bound lies behind the value
  ahead_of : first ≤ n → (n < first + 64 → IsBelow (n % 64 ∷ offset ∷ link ∷ row ∷ []) (cycle % 64 ∷ (value % c + 1)
      ∷ 0 ∷ 0 ∷ []) → ⊥) → value < n * c + offset
  ahead_of reached behind =
      let whole : c * (value / c) + value % c ≡ value = div-add-mod value c in
      let rest : value % c < c = mod-lt value some in
      elim (cases_of n cycle) [
        | inl less ↦ let b = same_block first cycle n from reached less in absurd (behind b.0 (inl b.1))
        | inr (inl same) ↦
            elim (cases_of offset (value % c + 1)) [
              | inl low ↦ absurd (behind (omega (arith, same, from)) (inr (ap (λ (k : ℕ). k % 64) same, inl low)))
              | inr (inl there) ↦ let e : n * c ≡ (value / c) * c = ap (λ k. k * c) (same ∙ is) in
                  omega (arith, whole, there, e)
              | inr (inr high) ↦ let e : n * c ≡ (value / c) * c = ap (λ k. k * c) (same ∙ is) in
                  omega (arith, whole, high, e)
            ]
        | inr (inr more) ↦ let e : (value / c + 1) * c ≤ n * c = mul-le-mul_right c (omega (arith, more, is)) in
            omega (arith, whole, rest, e)
      ]

  -- what lies behind the value is not below the bound
  from_value : value < n * c + offset → offset < c → (first ≤ n)
      × (n < first + 64 → IsBelow (n % 64 ∷ offset ∷ link ∷ row ∷ []) (cycle % 64 ∷ (value % c + 1) ∷ 0 ∷ 0 ∷ []) → ⊥)
  from_value ahead low =
      let whole : c * (value / c) + value % c ≡ value = div-add-mod value c in
      let reached : cycle ≤ n = elim (cases_of n cycle) [
        | inl less ↦ let e : (n + 1) * c ≤ (value / c) * c = mul-le-mul_right c (omega (arith, less, is)) in
            absurd (omega (arith, whole, e, ahead, low))
        | inr (inl same) ↦ omega (arith, same)
        | inr (inr more) ↦ omega (arith, more)
      ] in (
        omega (arith, reached, from),
        λ within below. elim below [
          | inl less ↦ omega (arith, less, within, from, reached)
          | inr (residue, inl less) ↦
              let same : n ≡ cycle = omega (arith, residue, within, from, reached) in
              let e : n * c ≡ (value / c) * c = ap (λ k. k * c) (same ∙ is) in
              omega (arith, whole, e, less, ahead)
          | inr (residue, inr (offset, inl less)) ↦ omega (arith, less)
          | inr (residue, inr (offset, inr (link, inl less))) ↦ omega (arith, less)
          | inr (residue, inr (offset, inr (link, inr (row, more)))) ↦ more
        ],
      )

-- the first cycle with rows is cycle 1
begun : (value c n offset p : ℕ) → c ≤ value + 1 → value < n * c + offset → offset + 4 * p ≤ c → 1 ≤ p → 1 ≤ n
begun value c zero offset p a b d e = absurd (omega (arith, a, b, d, e))
begun value c (suc n) offset p a b d e = omega arith

below_offset : (offset p c : ℕ) → offset + 4 * p ≤ c → 1 ≤ p → offset < c
below_offset offset p c a b = omega (arith, a, b)

up_to_value : (x : ℤ) (value n : ℕ) → x ≤ℤ pos value → value < n → x <ℤ pos n
up_to_value x value n a b = omega (arith, ints, a, b)

-- the value from which a device dispatches, and the bound of the search
pub record IsBehind (own : Own) (local : ℤ) (value first : ℕ) (bound : Slot) : Type 0 where
  pub some : 0 < amount own.plan.cycle_length
  pub silent : amount own.plan.cycle_length ≤ value + 1
  pub least : local ≤ℤ pos value
  pub next : (n : ℕ) → amount own.plan.cycle_length ≤ n → local <ℤ pos n → value < n
  pub first_is : first ≡ value / amount own.plan.cycle_length - value / amount own.plan.cycle_length % 64
  pub bound_is : turn_of bound ≡ (value / amount own.plan.cycle_length % 64) ∷ (value % amount own.plan.cycle_length + 1) ∷ 0 ∷ 0 ∷ []

at_least_one : (n c : ℕ) → 1 ≤ n → c ≤ n * c
at_least_one n c h = let e : 1 * c ≤ n * c = mul-le-mul_right c h in omega (arith, e)

same_key : (a b : ℕ) (xs ys : List ℕ) → a ≡ b → IsBelow (b ∷ xs) ys → IsBelow (a ∷ xs) ys
same_key a b xs ys e h = subst (λ (k : ℕ). IsBelow (k ∷ xs) ys) (sym e) h

pub first_is_next : {network : Network} {device : DeviceId} {own : Own} {rows : OwnRows} (s : Standing)
    (adjustment : Units) {local : ℤ} {value first : ℕ} {bound : Slot} {next : Dispatch} → IsOwnOf network device own
    → AreRowsOf network device rows → s.adjustment ≡ adjustment → s.state ≡ Synchronised
    → 1 ≤ amount network.precision → IsBehind own local value first bound
    → IsNextFrom own rows adjustment.0 first bound next → IsDispatch network device s local [] (Some next)
first_is_next {network} {device} {own} s adjustment {local} {value} {first} {next} is are same synchronised some
    behind found =
    let c = amount own.plan.cycle_length in
    let of = is_of next.slot are found.slot.there in
    let close = short network device is of in
    let ahead : value < next.cycle * c + next.slot.place.offset =
    ahead_of value c first (value / c) next.cycle next.slot.place.offset next.slot.place.link.0 next.slot.place.row.0 behind.some refl behind.first_is
    found.from.reached
    (λ within below. found.from.behind within
    (subst (λ k. IsBelow (turn_of next.slot) k) (sym behind.bound_is)
    (same_key next.slot.residue (next.cycle % 64) (numbers_of next.slot.place) ((value / c % 64) ∷ (value % c + 1) ∷ 0 ∷ 0 ∷ []) found.slot.residue below))) in
    let start : 1 ≤ next.cycle = begun value c next.cycle next.slot.place.offset (amount network.precision) behind.silent ahead close some in (
      synchronised,
      record {
        leaves = leaves network device next.cycle is of found.slot.residue start;
        ahead = grind (arith, length_is, offset_is, of, up_to_value, ahead);
        done_before = λ other n there. absurd (none_in (dispatching other n) there);
        rest = λ other n h later sooner.
            let slot = slot_of network device other n h in
            let one = is_slot network device is h in
            let low = below_offset slot.place.offset (amount network.precision) c (short network device is one) some in
            let there : value < n * c + slot.place.offset = behind.next _ (most n c slot.place.offset h.occurs.begun)
            (subst (λ (k : ℕ). local <ℤ pos (n * k + slot.place.offset)) (sym (length_is network device is))
            (subst (λ k. local <ℤ pos (n * amount network.cycle + k)) (offset_is network device one) later)) in
            let from = from_value value c first (value / c) n slot.place.offset slot.place.link.0 slot.place.row.0 behind.some refl behind.first_is
            there low in
            absurd (found.least slot n (slot_in network device is are h)
            (record { reached = from.0; behind = λ within below. from.1 within (subst (λ k. IsBelow (turn_of slot) k) behind.bound_is below) })
            (subst (λ (xs : List ℕ). IsBelow (n ∷ xs) (next.cycle ∷ numbers_of next.slot.place))
            (place_is network device one)
            (subst (λ (xs : List ℕ). IsBelow (n ∷ dispatch_order network other) (next.cycle ∷ xs))
            (place_is network device of) sooner)));
      },
      is_at s adjustment is of same found,
    )
  where
    most : (n c offset : ℕ) → 1 ≤ n → c ≤ n * c + offset
    most n c offset h = let e = at_least_one n c h in omega (arith, e)

-- ---- the one after another

module _ (first m n r q a b c x y z : ℕ) (from : first ≡ m - m % 64) (is : q ≡ m % 64) (at : r ≡ n % 64) where
  -- what comes after a slot in a cycle is not below the slot with the next row, and what is not comes after it
  after_from : IsBelow (m ∷ x ∷ y ∷ z ∷ []) (n ∷ a ∷ b ∷ c ∷ [])
      → (first ≤ n) × (n < first + 64 → IsBelow (r ∷ a ∷ b ∷ c ∷ []) (q ∷ x ∷ y ∷ (z + 1) ∷ []) → ⊥)
  after_from (inl less) = grind arith
  after_from (inr (same, above)) = grind (arith, below_more)

  from_after : first ≤ n → (n < first + 64 → IsBelow (r ∷ a ∷ b ∷ c ∷ []) (q ∷ x ∷ y ∷ (z + 1) ∷ []) → ⊥)
      → IsBelow (m ∷ x ∷ y ∷ z ∷ []) (n ∷ a ∷ b ∷ c ∷ [])
  from_after reached behind = grind (arith, cases_of, not_below_more, same_block)

-- lists compared through one between
trans_below : (xs ys zs : List ℕ) → IsBelow xs ys → IsBelow ys zs → IsBelow xs zs
trans_below [] ys zs h k = absurd h
trans_below (x ∷ xs) [] zs h k = absurd h
trans_below (x ∷ xs) (y ∷ ys) [] h k = absurd k
trans_below (x ∷ xs) (y ∷ ys) (z ∷ zs) h k =
    elim h [
      | inl a ↦ elim k [ inl b ↦ inl (omega (arith, a, b)) | inr (b, more) ↦ inl (omega (arith, a, b)) ]
      | inr (a, low) ↦ elim k [ inl b ↦ inl (omega (arith, a, b)) | inr (b, more) ↦ inr (a ∙ b, trans_below xs ys zs low more) ]
    ]

-- the bound behind a dispatch
pub record IsAfter (last : Dispatch) (first : ℕ) (bound : Slot) : Type 0 where
  pub first_is : first ≡ last.cycle - last.cycle % 64
  pub bound_is : turn_of bound ≡ last.slot.residue ∷ last.slot.place.offset ∷ last.slot.place.link.0 ∷ (last.slot.place.row.0 + 1) ∷ []

later_cycle : (m n : ℕ) (xs ys : List ℕ) → 1 ≤ m → IsBelow (m ∷ xs) (n ∷ ys) → 1 ≤ n
later_cycle m n xs ys some (inl less) = omega (arith, less, some)
later_cycle m n xs ys some (inr (same, more)) = omega (arith, same, some)

same_four : {a b c d e f g h : ℕ} → a ∷ b ∷ c ∷ d ∷ [] ≡ e ∷ f ∷ g ∷ h ∷ [] → (a ≡ e) × (d ≡ h)
same_four h = (cc, cc)

below_through : (x : ℤ) (m n : ℕ) → x <ℤ pos m → m ≤ n → x <ℤ pos n
below_through x m n a b = omega (arith, ints, a, b)

abbrev row_id : ℕ → RowId
row_id n = record { 0 = n }

sooner_by : (network : Network) (other : RowId) (n : ℕ) (row : RowId) (m : ℕ) (next : RowId) (k : ℕ) → dispatching other n ≡ dispatching row m
    → IsSooner network row m next k → IsSooner network other n next k
sooner_by network other n row m next k e h = grind arith

done_same : (done : List ClockTask) (other : RowId) (n : ℕ) (row : RowId) (m : ℕ) → other.0 ≡ row.0 → n ≡ m
    → Contains (done ++ dispatching row m ∷ []) (dispatching other n)
done_same done other n row m rows cycles =
    subst (λ (r : RowId). Contains (done ++ dispatching row m ∷ []) (dispatching r n)) (sym (ap row_id rows))
    (subst (λ (c : ℕ). Contains (done ++ dispatching row m ∷ []) (dispatching row c)) (sym cycles) (done_now done (dispatching row m)))

module _ (network : Network) (device : DeviceId) (own : Own) (rows : OwnRows) where
  pub next_is_next : (s : Standing) (changed : ℤ) (done : List ClockTask) (adjustment : Units) {last : Dispatch}
      {first : ℕ} {bound : Slot} {next : Dispatch} → IsOwnOf network device own → AreRowsOf network device rows
      → s.adjustment ≡ adjustment → IsAtSlot rows last → IsDispatch network device s changed done (Some last)
      → IsAfter last first bound → IsNextFrom own rows adjustment.0 first bound next
      → IsDispatch network device s changed (done ++ dispatching last.slot.place.row last.cycle ∷ []) (Some next)
  next_is_next s changed done adjustment {last} {first} {next} is are same at was after found =
      let deed = dispatching last.slot.place.row last.cycle in
      let of = is_of next.slot are found.slot.there in
      let before = is_of last.slot are at.there in
      let above : IsBelow (last.cycle ∷ numbers_of last.slot.place) (next.cycle ∷ numbers_of next.slot.place) =
      from_after first last.cycle next.cycle next.slot.residue last.slot.residue _ _ _ _ _ last.slot.place.row.0
      after.first_is at.residue found.slot.residue
      found.from.reached
      (λ within below. found.from.behind within (subst (λ k. IsBelow (turn_of next.slot) k)
      (sym after.bound_is) below)) in
      let start : 1 ≤ next.cycle = later_cycle last.cycle next.cycle (numbers_of last.slot.place)
      (numbers_of next.slot.place) was.1.leaves.occurs.begun above in
      let it = leaves network device next.cycle is of found.slot.residue start in
      let sooner : IsSooner network last.slot.place.row last.cycle next.slot.place.row next.cycle =
      subst (λ (xs : List ℕ). IsBelow (last.cycle ∷ xs) (next.cycle ∷ dispatch_order network next.slot.place.row))
      (sym (place_is network device before))
      (subst (λ (xs : List ℕ). IsBelow (last.cycle ∷ numbers_of last.slot.place) (next.cycle ∷ xs))
      (sym (place_is network device of)) above) in (
        was.0,
        record {
          leaves = it;
          ahead =
              below_through changed _ _ was.1.ahead
              (later_value is it was.1.leaves
              (λ back. below_one_way (last.cycle ∷ dispatch_order network last.slot.place.row)
              (next.cycle ∷ dispatch_order network next.slot.place.row) sooner back));
          done_before = λ other n there. elim (was_done done deed (dispatching other n) there) [
            | inl earlier ↦ trans_below (n ∷ dispatch_order network other)
                (last.cycle ∷ dispatch_order network last.slot.place.row)
                (next.cycle ∷ dispatch_order network next.slot.place.row) (was.1.done_before other n earlier) sooner
            | inr now ↦ sooner_by network other n last.slot.place.row last.cycle next.slot.place.row next.cycle now
                sooner
          ];
          rest = λ other n h later lt.
              let slot = slot_of network device other n h in
              let one = is_slot network device is h in
              let low : IsBelow (n ∷ numbers_of slot.place) (next.cycle ∷ numbers_of next.slot.place) =
              subst (λ (xs : List ℕ). IsBelow (n ∷ xs) (next.cycle ∷ numbers_of next.slot.place))
              (place_is network device one)
              (subst (λ (xs : List ℕ). IsBelow (n ∷ dispatch_order network other) (next.cycle ∷ xs))
              (place_is network device of) lt) in
              let not_after : IsBelow (last.cycle ∷ numbers_of last.slot.place) (n ∷ numbers_of slot.place) → ⊥ =
              λ behind.
              let from = after_from first last.cycle n slot.residue last.slot.residue _ _ _ _ _ last.slot.place.row.0
              after.first_is at.residue refl behind in
              found.least slot n (slot_in network device is are h)
              (record { reached = from.0; behind = λ within below. from.1 within (subst (λ k. IsBelow (turn_of slot) k) after.bound_is below) }) low
              in
              elim (same_or_below (n ∷ numbers_of slot.place)
              (last.cycle ∷ numbers_of last.slot.place) refl not_after) [
                | inl equal ↦ let e = same_four equal in done_same done other n last.slot.place.row last.cycle e.1 e.0
                | inr less ↦ done_still done deed (dispatching other n) (was.1.rest other n h later
                    (subst (λ (xs : List ℕ). IsBelow (n ∷ xs)
                    (last.cycle ∷ dispatch_order network last.slot.place.row)) (sym (place_is network device one))
                    (subst (λ (xs : List ℕ). IsBelow (n ∷ numbers_of slot.place) (last.cycle ∷ xs))
                    (sym (place_is network device before)) less)))
              ];
        },
        is_at s adjustment is of same found,
      )

  -- ---- an answer of the search

  no_rows : IsOwnOf network device own → AreRowsOf network device rows → rows.slots.items ≡ []
      → {row : RowId} {cycle : ℕ} → Leaves network device row cycle → ⊥
  no_rows is are none {row} {cycle} h =
      let there = (slot_in network device is are h).there in
      none_in (slot_of network device row cycle h)
      (subst (λ (xs : List Slot). Contains xs (slot_of network device row cycle h)) none there)

  pub first_next : (s : Standing) (adjustment : Units) {local : ℤ} {value first : ℕ} {bound : Slot}
      (o : Option Dispatch) → IsOwnOf network device own → AreRowsOf network device rows → s.adjustment ≡ adjustment
      → s.state ≡ Synchronised → IsBehind own local value first bound
      → IsFirstFrom own rows adjustment.0 first bound o → IsDispatch network device s local [] o
  first_next s adjustment None is are same synchronised behind found =
      λ sync row cycle h. no_rows is are found h
  first_next s adjustment (Some next) is are same synchronised behind found =
      first_is_next s adjustment is are same synchronised (at_least is.in_range.precision) behind found

  pub next_next : (s : Standing) (changed : ℤ) (done : List ClockTask) (adjustment : Units) {last : Dispatch}
      {first : ℕ} {bound : Slot} (o : Option Dispatch) → IsOwnOf network device own → AreRowsOf network device rows
      → s.adjustment ≡ adjustment → IsAtSlot rows last → IsDispatch network device s changed done (Some last)
      → IsAfter last first bound → IsFirstFrom own rows adjustment.0 first bound o
      → IsDispatch network device s changed (done ++ dispatching last.slot.place.row last.cycle ∷ []) o
  next_next s changed done adjustment None is are same at was after found =
      λ sync row cycle h. no_rows is are found h
  next_next s changed done adjustment {last} {first} {bound} (Some next) is are same at was after found =
      next_is_next s changed done adjustment {last = last} {first = first} {bound = bound} {next = next} is are
      same at was after found
