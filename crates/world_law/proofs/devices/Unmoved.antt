-- A device that no record moves stays as it was, and time passes at it.
use Rattle.run_law.proofs.records.Order.{after_same}
use Rattle.sync_state.specs.membership.Hearing.{Hearing}
use Rattle.world_law.{specs.device.Own.own}
use Rattle.world_law.proofs.{lists.Lists.filter_no}
use Rattle.world_law.proofs.Words
use Words.{if◌then◌else◌, ◌&&◌, ◌++◌, ◌+ℤ◌, ◌-◌, ◌<◌, ◌||◌, ◌∙◌, ◌∷◌, ◌≡◌, ◌≤◌, Bool, DeviceId, Happening, IfSome}
use Words.{IsLeft, IsStill, Joining, List, Node, None, NoteBody, Option, Scenario, Some, State, Units, []}
use Words.{adjustment_before, adjustment_with, after_last, ap, arith, cases_Bool, cases_lt, changed_at}
use Words.{changes_adjustment, correction_value, cycle_after, cycle_in, earlier, false, filter, filter_map, fold}
use Words.{has_cleared, heard_since, hearing_by, inl, inr, int_le, int_lt, integration_cycle, is_broken}
use Words.{is_integration_cycle, is_joined_by, is_timed, is_turned_on_at, le-ltb, local_at_change, lt-ltb, moves}
use Words.{nat_lt, next_cycle, not, pos, recorded_cycle, refl, same_kept, state_after, state_before, state_with, sym}
use Words.{time_of, true, ℕ}
use Rattle.run_law.specs.declared.judgement.Judgement.TheVariants as judgements
use Rattle.run_law.specs.declared.note.NoteBody.TheVariants as notes

-- ---- a record that does not bear on a device leaves it as it was: one record

-- no frame of the record tells the device the time
pub joins_no_other : (device : DeviceId) (body : NoteBody) → moves device body ≡ false → is_joined_by device body ≡ false
joins_no_other device (notes.Corrected other cycle by adjustment) e = refl
joins_no_other device (notes.State other state cause why) e = refl
joins_no_other device other e = e

pub keeps_state : (device : DeviceId) (old : State) (body : NoteBody) → moves device body ≡ false → state_with device old body ≡ old
keeps_state device old (notes.State other state cause why) e = rw e
keeps_state device old other e = ap (λ b. if b then Joining else old) (joins_no_other device other e)

pub keeps_adjustment : (s : Scenario) (device : DeviceId) (cycle : ℕ) (old : Units) (body : NoteBody) → moves device body ≡ false
    → adjustment_with s device cycle old body ≡ old
keeps_adjustment s device cycle old (notes.Corrected other number by adjustment) e = rw e
keeps_adjustment s device cycle old (notes.Permanent other link cause point judgements.Integrates) e =
    rw e
keeps_adjustment s device cycle old (notes.Compressed other opened at of_cycle members judgements.Integrates) e =
    rw e
keeps_adjustment s device cycle old other e = refl

module _ (device : DeviceId) where
  pub keeps_cycle : (next : ℕ) (h : Happening) (body : NoteBody) → moves device body ≡ false
      → cycle_after device next h body ≡ next
  keeps_cycle next h (notes.Corrected other cycle by adjustment) e = rw e
  keeps_cycle next h other e = ap (λ b. if b then cycle_in h else next) (joins_no_other device other e)

  pub keeps_integration : (last : Option ℕ) (h : Happening) → moves device h.note.body ≡ false
      → (if is_joined_by device h.note.body then Some (cycle_in h) else last) ≡ last
  keeps_integration last h e =
      rw (joins_no_other device h.note.body e)

  pub changes_no_other : (body : NoteBody) → moves device body ≡ false → changes_adjustment device body ≡ false
  changes_no_other (notes.Corrected other cycle by adjustment) e = e
  changes_no_other other e = joins_no_other device other e

  -- ---- lists: what a fold or a filter makes of records, it makes of the device's own

  pub own_no : (h : Happening) (hs : List Happening) → moves device h.note.body ≡ false
      → own device (h ∷ hs) ≡ own device hs
  own_no h hs e = rw e

  pub own_yes : (h : Happening) (hs : List Happening) → moves device h.note.body ≡ true
      → own device (h ∷ hs) ≡ h ∷ own device hs
  own_yes h hs e = rw e

pub fold_own : {B : Type 0} (device : DeviceId) (f : B → Happening → B) → ((z : B) (h : Happening) → moves device h.note.body ≡ false → f z h ≡ z)
    → (z : B) (hs : List Happening) → fold f z hs ≡ fold f z (own device hs)
fold_own device f stays z [] = refl
fold_own {B} device f stays z (h ∷ hs) =
    grind (arith, cases_Bool, moves, fold, own_yes, own_no, (fold_own device f stays (f z h) hs), (fold_own device f stays z hs))

pub filter_own : (device : DeviceId) (p : Happening → Bool) → ((h : Happening) → moves device h.note.body ≡ false → p h ≡ false) → (hs : List Happening)
    → filter p hs ≡ filter p (own device hs)
filter_own device p fails [] = refl
filter_own device p fails (h ∷ hs) = grind (arith, cases_Bool, moves, filter, own_yes, own_no, (filter_own device p fails hs))

-- ---- times

-- a record of a time does not change those before it
pub same_before : (t : ℕ) (hs : List Happening) (h : Happening) → t ≤ time_of h → earlier t (hs ++ h ∷ []) ≡ earlier t hs
same_before t hs h le = filter_no (λ g. nat_lt (time_of g) t) hs h (le-ltb (time_of h) t le)

pub earlier_yes : (t : ℕ) (h : Happening) (hs : List Happening) → time_of h < t → earlier t (h ∷ hs) ≡ h ∷ earlier t hs
earlier_yes t h hs lt = rw (lt-ltb (time_of h) t lt)

pub earlier_no : (t : ℕ) (h : Happening) (hs : List Happening) → t ≤ time_of h → earlier t (h ∷ hs) ≡ earlier t hs
earlier_no t h hs le = rw (le-ltb (time_of h) t le)

own_kept : (device : DeviceId) (t later : ℕ) (h : Happening) (hs : List Happening) → own device (earlier later hs) ≡ own device (earlier t hs)
    → own device (h ∷ earlier later hs) ≡ own device (h ∷ earlier t hs)
own_kept device t later h hs e = rw e

-- where none bears on the device from one time to another, its own records before the two are the same
pub own_still : (device : DeviceId) (t later : ℕ) → t ≤ later → (hs : List Happening) → IsStill hs device t later
    → own device (earlier later hs) ≡ own device (earlier t hs)
own_still device t later le [] still = refl
own_still device t later le (h ∷ hs) still =
    grind (arith, cases_lt, time_of, earlier_yes, own_kept, own_no, earlier, earlier_no, (own_still device t later le hs (λ g i. still g (inr i))))

-- ---- so all that the records before a time say of a device stays while none bears on it

module _ (s : Scenario) (hs : List Happening) (device : DeviceId) (t later : ℕ) (le : t ≤ later)
    (still : IsStill hs device t later) where
  pub state_still : state_after s (earlier later hs) device ≡ state_after s (earlier t hs) device
  state_still =
      let same = fold_own device (λ state h. state_with device state h.note.body)
      (λ z h e. keeps_state device z h.note.body e) _ in
      same (earlier later hs) ∙ ap (fold _ _) (own_still device t later le hs still) ∙ sym (same (earlier t hs))

  pub adjustment_still : adjustment_before s hs device later ≡ adjustment_before s hs device t
  adjustment_still =
      let same = fold_own device (λ adjustment h. adjustment_with s device (cycle_in h) adjustment h.note.body)
      (λ z h e. keeps_adjustment s device (cycle_in h) z h.note.body e) _ in
      same (earlier later hs) ∙ ap (fold _ _) (own_still device t later le hs still) ∙ sym (same (earlier t hs))

module _ (hs : List Happening) (device : DeviceId) (t later : ℕ) (le : t ≤ later)
    (still : IsStill hs device t later) where
  pub integration_still : integration_cycle (earlier later hs) device ≡ integration_cycle (earlier t hs) device
  integration_still =
      let same = fold_own device (λ last h. if is_joined_by device h.note.body then Some (cycle_in h) else last)
      (λ z h e. keeps_integration device z h e) None in
      same (earlier later hs) ∙ ap (fold _ _) (own_still device t later le hs still) ∙ sym (same (earlier t hs))

  pub cycle_still : recorded_cycle (earlier later hs) device ≡ recorded_cycle (earlier t hs) device
  cycle_still =
      let same = fold_own device (λ next h. cycle_after device next h h.note.body)
      (λ z h e. keeps_cycle device z h h.note.body e) 1 in
      same (earlier later hs) ∙ ap (fold _ _) (own_still device t later le hs still) ∙ sym (same (earlier t hs))

  pub change_still : changed_at hs device later ≡ changed_at hs device t
  change_still =
      let same = filter_own device (λ h. changes_adjustment device h.note.body)
      (λ h e. changes_no_other device h.note.body e) in
      rw (same (earlier later hs) ∙ ap (filter _) (own_still device t later le hs still) ∙ sym (same (earlier t hs)))

-- ---- time passes at a device that no record moves

-- has a joiner cleared by the time, where its last adjustment came at `changed`?
abbrev pub cleared_as : Scenario → DeviceId → Bool → ℕ → ℕ → Units → ℕ → Bool
cleared_as s device joining cycle changed adjustment by =
    joining
    && (int_lt (pos (s.reading device changed) +ℤ adjustment.0) (correction_value s.network cycle)
    && int_le (correction_value s.network cycle) (pos (s.reading device (by - 1)) +ℤ adjustment.0))

pub joining_still : (hs : List Happening) (device : DeviceId) (t later : ℕ) → t ≤ later → IsStill hs device t later
    → is_integration_cycle (earlier later hs) device ≡ is_integration_cycle (earlier t hs) device
joining_still hs device t later le still =
    rw (integration_still hs device t later le still)
    (rw (cycle_still hs device t later le still))

pub cleared_still : (s : Scenario) (hs : List Happening) (device : DeviceId) (t later by : ℕ) → t ≤ later → IsStill hs device t later
    → has_cleared s hs device later by ≡ has_cleared s hs device t by
cleared_still s hs device t later by le still =
    rw (joining_still hs device t later le still)
    (rw (cycle_still hs device t later le still)
    ((rw (change_still hs device t later le still)
    ((rw (adjustment_still s hs device t later le still))))))

-- the records behind the last change before a time are those behind the last change before a later one
pub since_still : (hs : List Happening) (device : DeviceId) (t later : ℕ) → t ≤ later → IsStill hs device t later
    → after_last (λ h. nat_lt (time_of h) later && changes_adjustment device h.note.body) hs ≡ after_last
    (λ h. nat_lt (time_of h) t && changes_adjustment device h.note.body) hs
since_still hs device t later le still =
    after_same (λ h. nat_lt (time_of h) later && changes_adjustment device h.note.body) (λ h. nat_lt (time_of h) t && changes_adjustment device h.note.body) hs
    (λ h i.
    elim (cases_lt (time_of h) t) [
      | inl lt ↦ rw (lt-ltb (time_of h) later (omega arith)
          ∙ sym (lt-ltb (time_of h) t lt))
      | inr ge ↦
          elim (cases_lt (time_of h) later) [
            | inl lt ↦
                rw (lt-ltb (time_of h) later lt)
                (changes_no_other device h.note.body (still h i ge lt)
                ∙ sym (rw (le-ltb (time_of h) t ge)))
            | inr far ↦ rw (le-ltb (time_of h) later far ∙ sym (le-ltb (time_of h) t ge))
          ]
    ])

-- what was heard of these
abbrev heard_of : Scenario → DeviceId → List Happening → List Hearing
heard_of s device kept = filter_map (λ h. hearing_by s.network device h h.note.body) kept

module _ (s : Scenario) (hs : List Happening) (device : DeviceId) (t later : ℕ) (le : t ≤ later)
    (still : IsStill hs device t later) where
  pub heard_still : has_cleared s hs device later later ≡ has_cleared s hs device t t
      → heard_since s hs device later ≡ heard_since s hs device t
  heard_still flag =
      let since = after_last (λ h. nat_lt (time_of h) t && changes_adjustment device h.note.body) hs in
      rw (since_still hs device t later le still)
      (rw flag
      (ap (heard_of s device)
      (same_kept (λ h. not (has_cleared s hs device t t) || has_cleared s hs device later (time_of h))
      (λ h. not (has_cleared s hs device t t)
      || has_cleared s hs device t (time_of h)) since
      (λ h i. rw (cleared_still s hs device t later (time_of h) le still)))))

  pub next_still : has_cleared s hs device later later ≡ has_cleared s hs device t t
      → next_cycle s hs device later ≡ next_cycle s hs device t
  next_still flag =
      rw flag
      (rw (cycle_still hs device t later le still))

  pub local_still : local_at_change s hs device later ≡ local_at_change s hs device t
  local_still =
      rw (change_still hs device t later le still)
      (rw (adjustment_still s hs device t later le still))

-- what no event turns on at the time stands as the records before it say
pub not_turned_on : (s : Scenario) (hs : List Happening) (device : DeviceId) (t : ℕ) → is_turned_on_at s device t ≡ false
    → state_before s hs device t ≡ state_after s (earlier t hs) device
not_turned_on s hs device t off = rw off

pub started_still : (hs : List Happening) (device : DeviceId) (t later : ℕ) → t ≤ later → IsStill hs device t later
    → IfSome (integration_cycle (earlier t hs) device) (λ cycle. cycle ≤ recorded_cycle (earlier t hs) device)
    → IfSome (integration_cycle (earlier later hs) device) (λ cycle. cycle ≤ recorded_cycle (earlier later hs) device)
started_still hs device t later le still h =
    rw (integration_still hs device t later le still) (rw (cycle_still hs device t later le still) h)

-- the same, where what it has cleared counts only if it has a next correction point
pub passes_if : {s : Scenario} {hs : List Happening} {device : DeviceId} {t : ℕ} (later : ℕ) {node : Node}
    → t ≤ later → IsStill hs device t later → is_turned_on_at s device t ≡ false
    → is_turned_on_at s device later ≡ false → is_broken s device later ≡ is_broken s device t
    → (is_timed node.standing.state ≡ true → has_cleared s hs device later later ≡ has_cleared s hs device t t)
    → IsLeft s hs device t node → IsLeft s hs device later node
passes_if {s} {hs} {device} {t} later le still off off_later sound cleared left = record {
  counted = record {
    plan = left.counted.plan;
    adjustment = left.counted.adjustment ∙ sym (adjustment_still s hs device t later le still);
    integrated = left.counted.integrated ∙ sym (integration_still hs device t later le still);
    number = λ timed. left.counted.number timed ∙ sym (next_still s hs device t later le still (cleared timed));
    changed = left.counted.changed ∙ sym (local_still s hs device t later le still);
    heard = λ timed. left.counted.heard timed ∙ sym (heard_still s hs device t later le still (cleared timed));
    started = started_still hs device t later le still left.counted.started;
    broken = left.counted.broken ∙ sym sound;
  };
  state = left.state ∙ not_turned_on s hs device t off ∙ sym (state_still s hs device t later le still) ∙ sym (not_turned_on s hs device later off_later);
  points = left.points;
}
