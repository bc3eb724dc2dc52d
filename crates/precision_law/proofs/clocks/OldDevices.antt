-- Devices whose clocks were set before a block: their next correction point, and how they hear.
use Rattle.precision_law.proofs.{faults.Turned.not_turned_on_then}
use Rattle.precision_law.proofs.words.{Plans.{DeviceId, Integrating, int_le-true}}
use Rattle.precision_law.proofs.words.Clocks
use Clocks.{adjustment_stays, any_in, fold_last, in_earlier, int_le-is, joined_changes, last_some, lt_by}
use Clocks.{next_cycle_is_of_last, passes, same_kept, sets_none, setting_is, settings_stay, steady, time_stays}
use Rattle.precision_law.proofs.words.Laws
use Laws.{HasTimeAt, IsGood, IsOldAt, IsView, Stands, View, adjustment_left, cycle_set, epoch_time, has_time}
use Laws.{is_corrected, is_correction, last_setting, next_of, state_left}
use Rattle.precision_law.proofs.words.Runs
use Runs.{Happening, IsIn, NoteBody, adjustment_at_hearing, adjustment_before, changed_at, changes_adjustment}
use Runs.{correction_value, cycle_in, earlier, had_come, has_cleared, has_joined_at, in_filter, integration_cycle}
use Runs.{is_integration_cycle, is_joined_by, local_at_change, next_cycle, recorded_cycle, state_after}
use Runs.{state_at_hearing, time_of}
use Rattle.precision_law.proofs.words.Std
use Std.{if◌then◌else◌, ◌&&◌, ◌+ℤ◌, ◌+◌, ◌-◌, ◌<ℤ◌, ◌<◌, ◌==◌, ◌||◌, ◌∙◌, ◌∷◌, ◌≡◌, ◌≤◌, ◌⊎◌, Bool, List, None, Option}
use Std.{Some, [], and_from, and_parts, ap, arith, both_ways, cases_Bool, cases_lt, eq-eqb, eqb-true, false}
use Std.{false_from_ne_true, filter, inl, inr, int_le, int_lt, ints, last_or, lt-ltb, nat_lt, option_map_or, pos, refl}
use Std.{subst, suc, sym, true, zero, ℕ}
use Rattle.tte_units.proofs.general_lemmas.Integers.{int_lt-from, int_lt-is}
use Rattle.run_law.specs.declared.note.NoteBody.TheVariants as notes

-- ---- the next correction point of a device whose clock was set before a block: the last joining

-- where the last of one kind is also of a narrower one, it is the last of this
last_of_both : {X : Type 0} (p q : X → Bool) (o r : Option X) (xs : List X) (h : X) → ((x : X) → p x ≡ true → q x ≡ true) → p h ≡ true
    → (o ≡ Some h → r ≡ Some h) → last_or o (filter q xs) ≡ Some h → last_or r (filter p xs) ≡ Some h
last_of_both p q o r [] h up at both e = both e
last_of_both {X} p q o r (x ∷ xs) h up at both e =
    elim (p x) as (λ b. p x ≡ b → last_or r (if b then x ∷ filter p xs else filter p xs) ≡ Some h) [
      | true ↦ λ here. last_of_both p q (Some x) (Some x) xs h up at (λ s. s)
          (rw (up x here) at e)
      | false ↦ λ not_here. elim (q x) as (λ b. last_or o (if b then x ∷ filter q xs else filter q xs) ≡ Some h → last_or r (filter p xs) ≡ Some h) [
        | true ↦ last_of_both p q (Some x) r xs h up at (λ s.
            let same : h ≡ x = cc in
            absurd (both_ways (p h) (ap p same ∙ not_here) at))
        | false ↦ last_of_both p q o r xs h up at both
      ] e
    ] refl

-- the cycle of the last joining
joining_is_last : (hs : List Happening) (device : DeviceId) → integration_cycle hs device ≡ option_map_or (λ h. Some (cycle_in h))
    (last_or None (filter (λ h. is_joined_by device h.note.body) hs)) None
joining_is_last hs device =
    fold_last (λ last h. if is_joined_by device h.note.body then Some (cycle_in h) else last) (λ h. Some (cycle_in h))
    (λ h. is_joined_by device h.note.body) None None hs (λ last h e. rw e refl) (λ last h e. rw e refl)

-- a joining of the device, of this cycle
pub record IsJoining (hs : List Happening) (device : DeviceId) (cycle : ℕ) : Type 0 where
  pub h : Happening
  pub there : IsIn h hs
  pub joins : is_joined_by device h.note.body ≡ true
  pub of_cycle : cycle_in h ≡ cycle

module _ (hs : List Happening) (device : DeviceId) (cycle : ℕ) where
  joining_by : (xs : List Happening) → xs ≡ filter (λ h. is_joined_by device h.note.body) hs
      → option_map_or (λ h. Some (cycle_in h)) (last_or None xs) None ≡ Some cycle → IsJoining hs device cycle
  joining_by [] same e = absurd cc
  joining_by (x ∷ xs) same e =
      let joins = λ (h : Happening). is_joined_by device h.note.body in
      let last = last_some None x xs in
      let i : IsIn last.0 (filter joins hs) = subst (IsIn last.0) same last.2 in
      record { h = last.0; there = in_filter joins hs last.0 i; joins = passes joins hs last.0 i; of_cycle = cc }

  pub joining_from : integration_cycle hs device ≡ Some cycle → IsJoining hs device cycle
  joining_from e =
      joining_by (filter (λ h. is_joined_by device h.note.body) hs) refl (sym (joining_is_last hs device) ∙ e)

-- ---- integration cycles

-- what is tested to be the integration cycle
integration_by : (recorded : ℕ) (o : Option ℕ) → option_map_or (λ cycle. recorded == cycle) o false ≡ true → o ≡ Some recorded
integration_by recorded None e = absurd cc
integration_by recorded (Some c) e = rw (sym (eqb-true recorded c e))

pub joining_of_setting : (device : DeviceId) (body : NoteBody) → changes_adjustment device body ≡ true → is_correction body ≡ false
    → is_joined_by device body ≡ true
joining_of_setting device (notes.Corrected d cycle by adjustment) e other = absurd cc
joining_of_setting device body e other = e

pub set_by_joining : (h : Happening) (body : NoteBody) → is_correction body ≡ false → cycle_set h body ≡ cycle_in h
set_by_joining h (notes.Corrected d cycle by adjustment) e = absurd cc
set_by_joining h body e = refl

-- a device that a joining set last is at its integration cycle
pub joiner_integrates : (hs : List Happening) (device : DeviceId) (h : Happening) → last_setting hs device ≡ Some h
    → changes_adjustment device h.note.body ≡ true → is_correction h.note.body ≡ false → (is_integration_cycle hs device ≡ true)
    × (recorded_cycle hs device ≡ cycle_in h) × (integration_cycle hs device ≡ Some (cycle_in h))
joiner_integrates hs device h e changes other =
    grind (
      arith,
      is_joined_by,
      joining_of_setting,
      last_of_both,
      joined_changes,
      joining_is_last,
      option_map_or,
      cycle_in,
      recorded_cycle,
      next_cycle_is_of_last,
      next_of,
      cycle_set,
      set_by_joining,
      eq-eqb,
    )

-- ---- an old device

-- one that had cleared before u, and is to integrate before t, had cleared before each instant from u on
pub cleared_from : {v : View} (device : DeviceId) (u q t : ℕ) → IsView v → u ≤ q → u ≤ t
    → epoch_time (earlier t v.records) device <ℤ pos u → is_integration_cycle (earlier t v.records) device ≡ true
    → has_cleared v.scenario v.records device u u ≡ true → has_cleared v.scenario v.records device t q ≡ true
cleared_from {v} device u q t is le_q le old at cleared =
    let s = v.scenario in
    let reading = s.reading device in
    let last = settings_stay v device u t is le old in
    let a = adjustment_stays device u t is le old in
    let recorded = next_cycle_is_of_last (earlier u v.records) device ∙ ap next_of last ∙ sym (next_cycle_is_of_last (earlier t v.records) device) in
    let time : changed_at v.records device u ≡ changed_at v.records device t = rw last in
    let value_u = correction_value s.network (recorded_cycle (earlier u v.records) device) in
    let value_t = correction_value s.network (recorded_cycle (earlier t v.records) device) in
    let value : value_u ≡ value_t = ap (correction_value s.network) recorded in
    let come = (and_parts (is_integration_cycle (earlier u v.records) device) (had_come s v.records device value_u u u) cleared).1 in
    let both = and_parts (int_lt (local_at_change s v.records device u) value_u)
    (int_le value_u (pos (reading (u - 1)) +ℤ (adjustment_before s v.records device u).0)) come in
    let below = int_lt-is (local_at_change s v.records device u) value_u both.0 in
    let above = int_le-is value_u (pos (reading (u - 1)) +ℤ (adjustment_before s v.records device u).0) both.1 in
    let same_a : (adjustment_before s v.records device u).0 ≡ (adjustment_before s v.records device t).0 = rw a in
    let up = (steady v is device).never_falls (u - 1) (q - 1) (omega arith) in
    and_from (is_integration_cycle (earlier t v.records) device) (had_come s v.records device value_t t q) at
    (and_from (int_lt (local_at_change s v.records device t) value_t) (int_le value_t (pos (reading (q - 1)) +ℤ (adjustment_before s v.records device t).0))
    (int_lt-from (local_at_change s v.records device t) value_t (omega (arith, ints, ap reading time)))
    (int_le-true value_t (pos (reading (q - 1)) +ℤ (adjustment_before s v.records device t).0) (omega (arith, ints))))

-- the device joined, and had cleared when the block began
pub had_cleared : {v : View} (n t : ℕ) {device : DeviceId} (before : Stands v n) → IsView v → before.next ≤ t
    → HasTimeAt v device before.next → IsOldAt v before.next device t → (h : Happening)
    → last_setting (earlier t v.records) device ≡ Some h → is_correction h.note.body ≡ false
    → has_cleared v.scenario v.records device before.next before.next ≡ true
had_cleared {v} zero t {device} before is from has old h e joined =
    let time : epoch_time (earlier t v.records) device ≡ pos (time_of h) = rw e in
    absurd (omega (arith, ints, before.is_over))
had_cleared {v} (suc c) t {device} before is from has old h e joined =
    let one = before.narrow c (omega arith) in
    let last = settings_stay v device before.next t is from old in
    let not_corrected = ap (λ o. option_map_or (λ g. is_correction g.note.body) o false) (last ∙ e) ∙ joined in
    elim (before.points one.0 c refl one.1 device has).how [
      | inl corrected ↦ absurd (both_ways (is_corrected (earlier before.next v.records) device) not_corrected corrected.0)
      | inr cleared ↦ cleared.1
    ]

module _ {v : View} {n : ℕ} (t : ℕ) (device : DeviceId) (before : Stands v n) (is : IsView v)
    (from : before.next ≤ t) where
  -- by what set its clock last, its number is that of the block's cycle, or it has cleared and its number is the one before
  set_or_cleared : HasTimeAt v device before.next → IsOldAt v before.next device t → (o : Option Happening)
      → last_setting (earlier t v.records) device ≡ o → option_map_or (λ h. cycle_set h h.note.body) o 0 ≡ n
      → (recorded_cycle (earlier t v.records) device ≡ suc n)
      ⊎ ((recorded_cycle (earlier t v.records) device ≡ n) × (has_cleared v.scenario v.records device t t ≡ true))
  set_or_cleared has old None e index =
      inl (omega (arith, next_cycle_is_of_last (earlier t v.records) device ∙ ap next_of e))
  set_or_cleared has old (Some h) e index =
      let recorded = next_cycle_is_of_last (earlier t v.records) device ∙ ap next_of e in
      let number = λ (b : Bool). if b then cycle_set h h.note.body + 1 else cycle_set h h.note.body in
      elim (is_correction h.note.body) as (λ b. is_correction h.note.body ≡ b
      → (recorded_cycle (earlier t v.records) device ≡ suc n)
      ⊎ ((recorded_cycle (earlier t v.records) device ≡ n) × (has_cleared v.scenario v.records device t t ≡ true))) [
        | true ↦ λ corrected. inl (omega (arith, ap number corrected))
        | false ↦ λ joined.
            let integrates =
            joiner_integrates (earlier t v.records) device h e (setting_is v device t h e).sets joined in
            let first = had_cleared n t before is from has old h e joined in
            inr (
              omega (arith, ap number joined),
              cleared_from device before.next t t is from from old integrates.0
                  first,
            )
      ] refl

  -- where a device has cleared, it joined in an earlier cycle
  earlier_join : IsGood v device → IsOldAt v before.next device t
      → is_integration_cycle (earlier t v.records) device ≡ true → recorded_cycle (earlier t v.records) device ≤ n
  earlier_join good old at =
      let hs = earlier t v.records in
      let j = joining_from hs device (recorded_cycle hs device)
      (integration_by (recorded_cycle hs device) (integration_cycle hs device) at) in
      let back = in_earlier t v.records j.h j.there in
      let early = lt_by (λ ge. both_ways (changes_adjustment device j.h.note.body)
      (sets_none device before.next t is from old j.h back.0 ge back.1)
      (joined_changes device j.h.note.body j.joins)) in
      omega (arith, before.joined j.h device back.0 j.joins good early, j.of_cycle)

  -- the number of an old device is that of the block's cycle
  pub old_number : HasTimeAt v device t → IsOldAt v before.next device t
      → next_cycle v.scenario v.records device t ≡ suc n
  old_number has old =
      let then_has : HasTimeAt v device before.next =
      record { good = has.good; timed = time_stays v device before.next t is from old has.timed } in
      let recorded = recorded_cycle (earlier t v.records) device in
      let number = λ (b : Bool). if b then recorded + 1 else recorded in
      let index = ap (λ x. option_map_or (λ h. cycle_set h h.note.body) x 0)
      (sym (settings_stay v device before.next t is from old))
      ∙ (before.clocks device then_has).index in
      let which = set_or_cleared then_has old _ refl index in
      elim (cases_Bool (has_cleared v.scenario v.records device t t)) [
        | inl cleared ↦
            let at = (and_parts (is_integration_cycle (earlier t v.records) device) _ cleared).0 in
            let small = earlier_join has.good old at in
            ap number cleared ∙ elim which [
              | inl more ↦ absurd (omega arith)
              | inr so ↦
                  (let one = so.0 in omega arith)
            ]
        | inr not_cleared ↦ ap number not_cleared ∙ elim which [
          | inl more ↦ more
          | inr so ↦ absurd (both_ways (has_cleared v.scenario v.records device t t) not_cleared so.1)
        ]
      ]

-- ---- how a device hears that has had a common time since before the block

-- records of the view up to a time, among them all of earlier times
pub record AreUpTo (v : View) (q : ℕ) (hs : List Happening) : Type 0 where
  pub all : earlier q hs ≡ earlier q v.records
  pub there : (h : Happening) → IsIn h hs → IsIn h v.records
  pub to : (h : Happening) → IsIn h hs → time_of h ≤ q

-- so a device stands when it hears a frame at q
pub record HearsAsAt (v : View) (t q : ℕ) (device : DeviceId) (hs : List Happening) : Type 0 where
  pub state : has_time (state_at_hearing v.scenario hs device q) ≡ true
  pub adjustment : (adjustment_at_hearing v.scenario hs device q).0 ≡ adjustment_left v device t

-- so none tells it the time
pub joins_none : {v : View} (device : DeviceId) (from t : ℕ) → IsView v → from ≤ t
    → epoch_time (earlier t v.records) device <ℤ pos from → (h : Happening) → IsIn h v.records → from ≤ time_of h
    → time_of h < t → is_joined_by device h.note.body ≡ false
joins_none device from t is le old h i late early =
    false_from_ne_true (is_joined_by device h.note.body)
    (λ joins. both_ways (changes_adjustment device h.note.body) (sets_none device from t is le old h i late early)
    (joined_changes device h.note.body joins))

or_quiet : (a b : Bool) → (a ≡ false → b ≡ false) → (a || b) ≡ a
or_quiet true b quiet = refl
or_quiet false b quiet = quiet refl

-- a device whose clock was set before `from`, and that has a common time before t, hears with this clock between
pub hears_as_at : {v : View} (device : DeviceId) (from : ℕ) {q : ℕ} (t : ℕ) {hs : List Happening} → IsView v
    → AreUpTo v q hs → from ≤ q → q < t → epoch_time (earlier t v.records) device <ℤ pos from
    → has_time (state_left v device t) ≡ true → HearsAsAt v t q device hs
hears_as_at {v} device from {q} t {hs} is up le lt old timed =
    let old_q : epoch_time (earlier t v.records) device <ℤ pos q = omega (arith, ints) in
    let timed_q = time_stays v device q t is (omega arith) old_q timed in
    let quiet : (h : Happening) → IsIn h hs → q ≤ time_of h → is_joined_by device h.note.body ≡ false = λ h i ge.
    (let to = up.to h i in joins_none device from t is (omega arith) old h (up.there h i)
    (omega arith) (omega arith)) in
    let none = false_from_ne_true (has_joined_at hs device q) (λ joined.
    let x = any_in (λ h. time_of h == q && is_joined_by device h.note.body) hs joined in
    let both = and_parts (time_of x.0 == q) (is_joined_by device x.0.note.body) x.2 in
    both_ways (is_joined_by device x.0.note.body) (quiet x.0 x.1 (omega (arith, eqb-true (time_of x.0) q both.0))) both.1) in
    let kept =
    same_kept (λ h. nat_lt (time_of h) q || is_joined_by device h.note.body) (λ h. nat_lt (time_of h) q) hs
    (λ h i. or_quiet (nat_lt (time_of h) q) (is_joined_by device h.note.body) (λ not_early.
    elim (cases_lt (time_of h) q) [ inl early ↦ absurd (both_ways (nat_lt (time_of h) q) not_early (lt-ltb (time_of h) q early)) | inr ge ↦ quiet h i ge ])) in
    record {
      state =
          rw none
          (ap (λ b. has_time (if b then Integrating else state_after v.scenario (earlier q hs) device))
          (not_turned_on_then device q is timed_q)
          ∙ ap (λ es. has_time (state_after v.scenario es device)) up.all ∙ timed_q);
      adjustment =
          rw (kept ∙ up.all)
          (ap (λ a. a.0) (adjustment_stays device q t is (omega arith) old_q));
    }
