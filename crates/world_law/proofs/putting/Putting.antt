-- The records of a source are put in, and the frontier goes by it.
use Rattle.std.proofs.lemmas.Bool.{and_left}
use Rattle.net_plan.proofs.SameIds.{one_device}
use Rattle.run_law.{proofs.law.FirstDeliveries.{numbered_front, numbered_next}}
use Rattle.run_law.{specs.{records.Causes.device_of, timed.Receptions.comes_before}}
use Rattle.tte_units.proofs.general_lemmas.Naturals.{unequal}
use Rattle.world_law.{specs.world.World.IsDueAs}
use Rattle.world_law.proofs.{devices.Standing.moves_no_other, giving.GivenParts.some_same}
use Rattle.world_law.proofs.{putting.{Near.{frames_aside, hears, held_aside, known_aside, known_cause}, PutIn.own_time}}
use Rattle.world_law.proofs.{rows.AtHand.idle_taking, runs.Worlds.{AreSettled, at_least, earlier_still, own_here}}
use Rattle.world_law.proofs.Words
use Words.{◌&&◌, ◌++◌, ◌+◌, ◌<◌, ◌==◌, ◌||◌, ◌∙◌, ◌∷◌, ◌≡◌, ◌≤◌, ◌⊎◌, AllBefore, AreOfNetwork, Bool, ChangesState}
use Words.{DeviceId, Happening, IsBefore, IsDue, IsFounded, IsHeld, IsIn, IsOfThisTime, IsOwnSource, IsSource, Joining}
use Words.{LinkId, List, Network, Node, NoneBefore, NoteBody, Scenario, Some, State, Units, VlId, What, Why, [], amount}
use Words.{and_right, ap, append-nil, append_assoc, arith, bears_on, before_behind, behind, both_ways, cases_Bool}
use Words.{cases_lt, cases_order, cause_of, eqb-true, false, false_from_ne_true, in_left, in_parts, in_right, inl, inr}
use Words.{is_at_source, is_joined_by, is_taken_before, key, le-ltb, length, members_in, nat_lt, never_self, numbered}
use Words.{parted, place_of, rank, refl, rows_place, state_before, subst, suc, sym, time_of, true, ℕ}
use Rattle.world_law.proofs.putting.{Idle.{IsIdle, idle_bears, idle_rank}, Moving.{IsAllOfIt, IsMoving, off_source}}
use Rattle.world_law.proofs.putting.Placing
use Placing.{AsState, IsCarried, IsPlacing, IsShownPair, IsWell, before_it, change_of, due_of, hears_source}
use Placing.{least_of_own, numbered_here, pair_put, placed_well, record_of, settled_by, seven, well_of}
use Rattle.run_law.specs.declared.judgement.Judgement.TheVariants as judgements
use Rattle.run_law.specs.declared.judgement.Why.TheVariants as whys
use Rattle.run_law.specs.declared.note.NoteBody.TheVariants as notes

-- ---- a source of the instant is worked off: its record is put in, or its record and the change of state that follows it

-- ---- what a record of this source tells

order_not : (link by cause from : ℕ) → (IsBefore (by ∷ from ∷ []) (link ∷ cause ∷ []) → ⊥) → (nat_lt by link || (by == link && nat_lt from cause)) ≡ false
order_not link by cause from not = grind (arith, cases_order, nat_lt, le-ltb, unequal, and_right, cases_lt)

none_before : (now : ℕ) (device other : DeviceId) (vl of_vl : VlId) (link by : LinkId) (cause from : ℕ)
    → (IsBefore (now ∷ 2 ∷ other.0 ∷ by.0 ∷ from ∷ []) (now ∷ 2 ∷ device.0 ∷ link.0 ∷ cause ∷ []) → ⊥)
    → (device.0 == other.0 && vl.0 == of_vl.0 && (nat_lt now now || (now == now && comes_before by from link cause))) ≡ false
none_before now device other vl of_vl link by cause from not = grind (arith, nat_lt, cases_Bool, and_left, eqb-true, and_right, le-ltb, order_not)

module _ (s : Scenario) (js : List Happening) (now m : ℕ) where
  -- no arrival up to its source comes after it
  takes_not : (body : NoteBody) (at : List ℕ) → IsOwnSource s js now m body at
      → (device : DeviceId) (vl : VlId) (link : LinkId) (cause : ℕ)
      → (IsBefore at (now ∷ 2 ∷ device.0 ∷ link.0 ∷ cause ∷ []) → ⊥)
      → is_taken_before device vl now link cause now body ≡ false
  takes_not (notes.Accepted other by from of_vl cycle) at o device vl link cause under =
      none_before now device other vl of_vl link by cause from
      (rw o at under)
  takes_not (notes.Delivered other by from of_vl cycle) at o device vl link cause under =
      none_before now device other vl of_vl link by cause from
      (rw o at under)
  takes_not other at o device vl link cause under = refl

  -- it bears on no device whose correction point is before its source
  apart_of : (r : ℕ) (more : List ℕ) (body : NoteBody) → IsOwnSource s js now m body (now ∷ r ∷ more)
      → (now ∷ 2 ∷ [] ≡ now ∷ r ∷ more → ⊥) → (device : DeviceId) → IsBefore (rows_place now device) (now ∷ r ∷ more)
      → bears_on device body ≡ false
  apart_of r more (notes.State other state cause whys.SyncClique) o longer device b =
      grind (arith, false_from_ne_true, never_self, rows_place, eqb-true)
  apart_of r more other o longer device b = grind (arith, false_from_ne_true, never_self, rows_place, eqb-true)

-- ---- what follows it

-- a record that none follows
abbrev pub is_last : NoteBody → Bool
is_last (notes.Event line what) = false
is_last (notes.Corrected device cycle by adjustment) = false
is_last (notes.Permanent device link cause point judgements.Integrates) = false
is_last (notes.Compressed device opened at cycle members judgements.Integrates) = false
is_last other = true

-- no change of state follows it
pub record IsUnfollowed (s : Scenario) (hs : List Happening) (now : ℕ) (body : NoteBody) : Type 0 where
  pub no_event : (line : ℕ) (what : What) → body ≡ notes.Event line what → ⊥
  pub no_join : (device : DeviceId) → is_joined_by device body ≡ false
  pub no_first : (device : DeviceId) (cycle : ℕ) (by adjustment : Units) → body ≡ notes.Corrected device cycle by adjustment
      → state_before s hs device now ≡ Joining → ⊥

last_joins : (body : NoteBody) → is_last body ≡ true → (device : DeviceId) → is_joined_by device body ≡ false
last_joins (notes.Permanent other link cause point judgements.Integrates) e device = absurd cc
last_joins (notes.Compressed other opened at cycle members judgements.Integrates) e device = absurd cc
last_joins other e device = refl

pub last_unfollowed : (s : Scenario) (hs : List Happening) (now : ℕ) (body : NoteBody) → is_last body ≡ true → IsUnfollowed s hs now body
last_unfollowed s hs now body e = grind (arith, last_joins)

-- nor does one follow the correction of a device that had the common time
pub corrected_unfollowed : (s : Scenario) (hs : List Happening) (now : ℕ) (device : DeviceId) (cycle : ℕ) (by adjustment : Units)
    → (state_before s hs device now ≡ Joining → ⊥) → IsUnfollowed s hs now (notes.Corrected device cycle by adjustment)
corrected_unfollowed s hs now device cycle by adjustment not = grind (arith, state_before)

-- a change of state that follows the record of this number is of the device of that record
pub record Follows (s : Scenario) (js : List Happening) (now : ℕ) (w : Happening) (device : DeviceId) : Type 0 where
  pub event : (line : ℕ) (what : What) → w.note.body ≡ notes.Event line what → ⊥
  pub of_it : (is_joined_by device w.note.body ≡ true)
      ⊎ ((state_before s js device now ≡ Joining) × ((cycle : ℕ) × (by : Units) × (adjustment : Units)
      × (w.note.body ≡ notes.Corrected device cycle by adjustment)))

module _ (s : Scenario) (js : List Happening) (now k : ℕ) {w : Happening} where
  follower_of : (device : DeviceId) (state : State) (why : Why) → numbered js (suc k) ≡ Some w
      → ((line : ℕ) (what : What) → w.note.body ≡ notes.Event line what → ⊥)
      → ChangesState s js device now state (suc k) why → Follows s js now w device
  follower_of device state whys.On there event c =
      let same = some_same c.2.1 w _ c.2.2.there there in
      absurd (event c.2.0 _ (ap (λ h. h.note.body) (sym same) ∙ c.2.3))
  follower_of device state whys.Frame there event c =
      let same = some_same c.1.0 w _ c.1.1.there there in
      record { event = event; of_it = inl (rw (sym same) c.1.2) }
  follower_of device state whys.Correction there event c =
      let same = some_same c.2.3 w _ c.2.4.there there in
      record { event = event; of_it = inr (c.1, (c.2.0, c.2.1, c.2.2, rw (sym same) c.2.5)) }
  follower_of device state whys.SyncClique there event c = absurd (omega arith)
  follower_of device state whys.AsyncClique there event c = absurd (omega arith)

  -- so is one that is due with that cause
  pub due_follows : {y : Happening} → numbered js (suc k) ≡ Some w
      → ((line : ℕ) (what : What) → w.note.body ≡ notes.Event line what → ⊥) → IsDueAs s js y → time_of y ≡ now
      → rank y.note.body ≡ 7 → cause_of y.note.body ≡ k + 1
      → (it : AsState y.note.body) × (it.cause ≡ k + 1) × Follows s js now w it.device
  due_follows {y} there event due now_is of_rank cause = elim (seven y.note.body) [
    | inr none ↦ absurd (none of_rank)
    | inl it ↦
        let c : it.cause ≡ k + 1 = ap cause_of (sym it.is) ∙ cause in
        let next : it.cause ≡ suc k = omega arith in
        let at : ChangesState s js it.device now it.state it.cause it.why =
        rw now_is at (rw it.is at due.cause)
        in (
          it,
          c,
          follower_of it.device it.state it.why there event
              (rw next at at),
        )
  ]

-- the record has its number in the list
pub at_number : (hs front c : List Happening) (w : Happening) → numbered (hs ++ (front ++ w ∷ c)) (suc (before_it hs front)) ≡ Some w
at_number hs front c w = rw (sym (append_assoc hs front (w ∷ c))) (numbered_here (hs ++ front) c w)

-- ---- one record

-- the first source of the instant is worked off, and brings a record that is due at its place among those to come. No
-- record of its own device that rests on what that hears is to come behind it, if the source is the device's correction point
pub record IsOne (s : Scenario) (hs front back : List Happening) (now r : ℕ) (more : List ℕ) (w : Happening) : Type 0 where
  pub moving : IsMoving s hs (front ++ back) now r more
  pub given : IsFounded place_of (IsDue s) hs
  pub at : time_of w ≡ now
  pub due : IsDueAs s (hs ++ front) w
  pub before : AllBefore place_of front (place_of w)
  pub none : NoneBefore place_of back (place_of w)
  pub fresh : (y : Happening) → IsIn y back → place_of w ≡ place_of y → ⊥
  pub mine : IsOwnSource s (hs ++ front) (time_of w) (members_in w) w.note.body (now ∷ r ∷ more)
  pub here : IsSource s (hs ++ front) (now ∷ r ∷ more)
  pub aside : (x : Happening) → IsIn x back → (device : DeviceId) → now ∷ r ∷ more ≡ rows_place now device → hears device x.note.body ≡ true → ⊥

from_two : (now r : ℕ) (more : List ℕ) → IsBefore (now ∷ 2 ∷ []) (now ∷ r ∷ more) → 2 ≤ r
from_two now r more (inl lt) = absurd (omega arith)
from_two now r more (inr (e, inl lt)) = omega arith
from_two now r more (inr (e, inr b)) = omega (arith, b.0)

-- what hears at the instant is aside of what comes from another source
pub hears_aside : {s : Scenario} {hs coming : List Happening} (f rest : List Happening) {now r : ℕ} {more : List ℕ} (x : Happening)
    (device : DeviceId) → IsMoving s hs coming now r more
    → coming ≡ f ++ x ∷ rest → hears device x.note.body ≡ true
    → IsBefore (rows_place now device) (now ∷ r ∷ more) ⊎ (now ∷ r ∷ more ≡ rows_place now device)
hears_aside {s} {hs} {coming} f rest {now} {r} {more} x device m e yes_it =
    let by = (well_of m).by f rest x e in
    let now_is = m.are.of_now x (rw e (Rattle.run_law.proofs.runs.Places.in_right x f (x ∷ rest) (inl refl))) in
    let i : IsIn x coming = rw e (Rattle.run_law.proofs.runs.Places.in_right x f (x ∷ rest) (inl refl)) in
    let act = hears_source s (hs ++ f) (time_of x) (members_in x) device x.note.body by.0 (off_source m x i) yes_it by.1
    ∙ (rw now_is) in
    elim by.3 [
      | inl lt ↦ inl (rw act at lt)
      | inr same ↦ inr (sym same ∙ act)
    ]

pub placing_one : {s : Scenario} {hs front back : List Happening} {now r : ℕ} {more : List ℕ} {w : Happening} → IsOne s hs front back now r more w → IsPlacing s hs front back now r more w
placing_one {s} {hs} {front} {back} {now} {r} {more} {w} p =
    let mine : IsOwnSource s (hs ++ front) now (members_in w) w.note.body (now ∷ r ∷ more) = rw p.at at p.mine in
    let longer : now ∷ 2 ∷ [] ≡ now ∷ r ∷ more → ⊥ = λ e.
    never_self (now ∷ r ∷ more) (subst (λ q. IsBefore q (now ∷ r ∷ more)) e p.moving.later) in
    record {
      forward = p.moving.forward;
      late = from_two now r more p.moving.later;
      given = p.given;
      at = p.at;
      due = p.due;
      before = p.before;
      none = p.none;
      fresh = p.fresh;
      least = least_of_own s (hs ++ front) (time_of w) (members_in w) w.note.body (now ∷ r ∷ more) p.mine;
      taken = (now ∷ r ∷ more, p.mine, p.here, inr refl);
      takes = λ device vl link cause under.
          rw p.at (takes_not s (hs ++ front) now (members_in w) w.note.body (now ∷ r ∷ more) mine device vl link cause
          under);
      apart = apart_of s (hs ++ front) now (members_in w) r more w.note.body mine longer;
      aside = λ x i device yes_it.
          let split = Rattle.run_law.proofs.runs.Places.parted x back i in
          let whole : front ++ back ≡ (front ++ split.0) ++ x ∷ split.1 = ap (λ l. front ++ l) split.2
          ∙ sym (append_assoc front split.0 (x ∷ split.1)) in
          elim (hears_aside (front ++ split.0) split.1 x device p.moving whole yes_it) [
            | inl lt ↦ apart_of s (hs ++ front) now (members_in w) r more w.note.body mine longer device lt
            | inr own ↦ absurd (p.aside x i device own yes_it)
          ];
    }

module _ {s : Scenario} {hs front back : List Happening} {now r : ℕ} {more : List ℕ} {w : Happening} (p : IsOne s hs front back now r more w) where
  pub put_now : (c d : List Happening) → back ≡ c ++ d → (z : Happening) → IsIn z (front ++ w ∷ c) → time_of z ≡ now
  put_now c d e z i =
      elim (in_parts z front (w ∷ c) i) [
        | inl f ↦ p.moving.are.of_now z (in_left z front back f)
        | inr (inl same) ↦ ap time_of same ∙ p.at
        | inr (inr b) ↦ p.moving.are.of_now z (in_right z front back
            (rw e (in_left z c d b)))
      ]

  -- nothing is to be put in yet, and nothing follows it
  none_follows : IsUnfollowed s hs now w.note.body → IsCarried s hs front back now w (λ y. ⊥) (λ y. ⊥)
  none_follows last = record {
    same = λ f rest y e due now_is yet. absurd yet;
    moved = λ c d y e due now_is other yet. absurd yet;
    new = λ c d y e due now_is of_rank cause.
        let it = due_follows s (hs ++ (front ++ w ∷ c)) now (before_it hs front) (at_number hs front c w)
        last.no_event due now_is of_rank cause in
        absurd (elim it.2.of_it [
          | inl joins ↦ both_ways _ (last.no_join it.0.device) joins
          | inr first ↦
              let late : (z : Happening) → IsIn z (front ++ w ∷ c) → now ≤ time_of z =
              λ z i. let at = put_now c d e z i in omega arith in
              last.no_first it.0.device first.1.0 first.1.1 first.1.2 first.1.3
              (rw (sym (earlier_still now hs (front ++ w ∷ c) late)) first.0)
        ]);
  }

  pub one_well : IsUnfollowed s hs now w.note.body → IsWell s hs (front ++ w ∷ back) now r more (λ y. ⊥)
  one_well last =
      placed_well (well_of p.moving) (placing_one p) (none_follows last)

-- of what is to come then only this record may stand at its source
pub worked_then : {s : Scenario} {hs front back : List Happening} (then_ : List ℕ) {now r : ℕ} {more : List ℕ} {w : Happening}
    → IsOne s hs front back now r more w → (is_at_source w.note.body ≡ true → IsBefore (place_of w) then_)
    → (z : Happening) → IsIn z (front ++ w ∷ back) → is_at_source z.note.body ≡ true → IsBefore (place_of z) then_
worked_then {front} {back} then_ {w} p at z i is =
    elim (in_parts z front (w ∷ back) i) [
      | inl f ↦ absurd (not_there (in_left z front back f))
      | inr (inl e) ↦ rw e (at (rw (sym e) is))
      | inr (inr b) ↦ absurd (not_there (in_right z front back b))
    ]
  where
    not_there : IsIn z (front ++ back) → ⊥
    not_there j = both_ways _ (off_source p.moving z j) is

-- THE RECORD IS PUT IN, AND THE FRONTIER GOES BEHIND ITS SOURCE (all sources but events and their outcomes). All that is
-- due from the source is at the record's place, whatever else is to come
pub one_by : {s : Scenario} {hs front back : List Happening} {now r : ℕ} {more : List ℕ} {w : Happening} → IsOne s hs front back now r more w → IsUnfollowed s hs now w.note.body
    → IsAllOfIt s hs (front ++ w ∷ back) (now ∷ r ∷ more)
    → AreSettled s hs (front ++ w ∷ back) (now ∷ r ∷ more) (behind (now ∷ r ∷ more)) now
one_by {s} {hs} {front} {now} {r} {more} {w} p last all =
    let at = now ∷ r ∷ more in
    settled_by (one_well p last) p.moving.later
    (worked_then (behind at) p
    (λ is. subst (λ q. IsBefore q (behind at))
    (own_here s (hs ++ front) (time_of w) (members_in w) w.note.body at is p.mine) (before_behind at))) all

-- ---- a record and the change of state that follows it are put in: whom the follower is of

joins_device : (device : DeviceId) (body : NoteBody) → is_joined_by device body ≡ true → device_of body ≡ Some device
joins_device device (notes.Permanent other link cause point judgements.Integrates) e = rw (one_device device other e)
joins_device device (notes.Compressed other opened at cycle members judgements.Integrates) e =
    rw (one_device device other e)
joins_device device other e = absurd cc

pub follows_device : {s : Scenario} {js : List Happening} {now : ℕ} {w : Happening} {device : DeviceId}
    → Follows s js now w device → device_of w.note.body ≡ Some device
follows_device f = grind (arith, joins_device)

-- the record of the cause of a change of state
cause_there : (s : Scenario) (js : List Happening) (device : DeviceId) (t : ℕ) (state : State) (k : ℕ) (why : Why)
    → ChangesState s js device t state (suc k) why → (h : Happening) × (numbered js (suc k) ≡ Some h)
cause_there s js device t state k whys.On c = (c.2.1, c.2.2.there)
cause_there s js device t state k whys.Frame c = (c.1.0, c.1.1.there)
cause_there s js device t state k whys.Correction c = (c.2.3, c.2.4.there)
cause_there s js device t state k whys.SyncClique c = absurd (omega arith)
cause_there s js device t state k whys.AsyncClique c = absurd (omega arith)

due_there : {s : Scenario} {js : List Happening} (k : ℕ) {y : Happening} → IsDueAs s js y → rank y.note.body ≡ 7
    → cause_of y.note.body ≡ k + 1 → (h : Happening) × (numbered js (suc k) ≡ Some h)
due_there k due of_rank cause = grind (arith, seven, cause_of, cause_there, amount)

-- ---- the two records

-- the first is one that is put in, as before, and comes first of all; the change of state of its device follows it
pub record IsPair (s : Scenario) {hs coming settled : List Happening} {now : ℕ} (r : ℕ)
    (more : List ℕ) {body : NoteBody}
    {device : DeviceId} {state : State} {why : Why}
    (q : IsShownPair s.network hs now body device state why coming settled) : Type 0 where
  pub one : IsOne s hs [] coming now r more (record_of s.network hs [] now body)
  pub no_event : rank body ≡ 1 → ⊥
  pub low : r ≤ 6
  pub acts : 6 ≡ r → now ∷ r ∷ more ≡ rows_place now device
  pub is_of : device_of body ≡ Some device
  pub follows : (why ≡ whys.Frame) ⊎ (why ≡ whys.Correction)
  pub changes : IsOfThisTime (hs ++ record_of s.network hs [] now body ∷ q.mid) now (length hs + 1)
      (record_of s.network hs [] now body)
      → ChangesState s (hs ++ record_of s.network hs [] now body ∷ q.mid) device now state (length hs + 1) why

own_of_change : (s : Scenario) (js : List Happening) (t m : ℕ) (device : DeviceId) (state : State) (cause : ℕ) (why : Why)
    → (why ≡ whys.Frame) ⊎ (why ≡ whys.Correction) → IsOwnSource s js t m (notes.State device state cause why) (t ∷ 2 ∷ [])
own_of_change s js t m device state cause why (inl e) = rw e refl
own_of_change s js t m device state cause why (inr e) = rw e refl

six_or_less : (r : ℕ) → r ≤ 6 → (6 ≡ r) ⊎ (r < 6)
six_or_less r le = elim (cases_lt r 6) [ inl lt ↦ inr lt | inr ge ↦ inl (omega arith) ]

module _ {s : Scenario} {hs coming settled : List Happening} {now r : ℕ} {more : List ℕ} {body : NoteBody}
    {device : DeviceId} {state : State} {why : Why}
    {q : IsShownPair s.network hs now body device state why coming settled}
    (p : IsPair s r more q) where
  abbrev leader : Happening
  leader = record_of s.network hs [] now body

  abbrev change : Happening
  change = change_of s.network hs now body q.mid device state why

  abbrev both : List Happening
  both = pair_put s.network hs now body q.mid device state why q.back

  -- the change that follows the first record
  abbrev Yet : Happening → Type 0
  Yet y = (rank y.note.body ≡ 7) × (cause_of y.note.body ≡ length hs + 1)

  -- what is due with that cause stands where the change does
  at_change : {js : List Happening} {y : Happening} → numbered js (suc (length hs)) ≡ Some leader → IsDueAs s js y
      → time_of y ≡ now → Yet y → place_of change ≡ place_of y
  at_change {js} {y} there due now_is yet =
      let it = due_follows s js now (length hs) there (λ line what e. p.no_event (ap rank e)) due
      now_is yet.0 yet.1 in
      let same = some_same device it.0.device (device_of body) p.is_of (follows_device it.2) in
      ap (λ t. t ∷ 7 ∷ device.0 ∷ (length hs + 1) ∷ []) (sym now_is)
      ∙ ap (λ d. time_of y ∷ 7 ∷ d.0 ∷ (length hs + 1) ∷ []) same
      ∙ ap (λ c. time_of y ∷ 7 ∷ it.0.device.0 ∷ c ∷ []) (sym it.1)
      ∙ sym (ap (λ b. time_of y ∷ rank b ∷ key (members_in y) b) it.0.is)

  -- with the first record, all is there but what follows it
  first_carried : IsCarried s hs [] coming now leader (λ y. ⊥) Yet
  first_carried = record {
    same = λ f rest y e due now_is yet. absurd yet;
    moved = λ c d y e due now_is other yet. absurd yet;
    new = λ c d y e due now_is of_rank cause. inr (
      of_rank,
      cause ∙ (rw (append-nil hs)),
    );
  }

  -- and with the change, all
  second_carried : IsCarried s hs (leader ∷ q.mid) q.back now change Yet (λ y. ⊥)
  second_carried =
      let n = length hs in
      let here = inr (in_right change q.mid (change ∷ q.back) (inl refl)) in
      record {
        same = λ f rest y e due now_is yet.
            let found = due_there n due yet.0 yet.1 in
            let all = append_assoc hs f rest
            ∙ ap (λ l. hs ++ l) (sym e) in
            let is_w = some_same found.0 leader (numbered (hs ++ leader ∷ q.mid) (suc n))
            (rw (sym all) (numbered_front (hs ++ f) rest (suc n) found.0 found.1)) (numbered_here hs q.mid leader) in
            inl (change, here, at_change (found.1 ∙ (rw is_w)) due now_is yet);
        moved = λ c d y e due now_is other yet.
            inl (change, here, at_change (numbered_here hs (q.mid ++ change ∷ c) leader) due now_is yet);
        new = λ c d y e due now_is of_rank cause.
            let no_event : (line : ℕ) (what : _) → change.note.body ≡ notes.Event line what → ⊥ = λ line what bad.
            let one = ap rank bad in omega arith in
            let it = due_follows s (hs ++ leader ∷ (q.mid ++ change ∷ c)) now (before_it hs (leader ∷ q.mid))
            (at_number hs (leader ∷ q.mid) c change) no_event due now_is of_rank cause in
            absurd (elim it.2.of_it [
              | inl joins ↦ cc
              | inr first ↦ let six = ap rank first.1.3 in omega arith
            ]);
      }

  -- it bears on no device whose correction point is before the source
  apart_two : (other : DeviceId) → IsBefore (rows_place now other) (now ∷ r ∷ more) → (other.0 == device.0) ≡ false
  apart_two other b = search (arith, six_or_less, false_from_ne_true, never_self)

  placing_two : IsPlacing s hs (leader ∷ q.mid) q.back now r more change
  placing_two =
      let first = placing_one p.one in
      record {
        forward = first.forward;
        late = first.late;
        given = first.given;
        at = refl;
        due = due_of s hs (leader ∷ q.mid) now (notes.State device state (length hs + 1) why)
            (p.changes (record { there = numbered_next hs q.mid leader (length hs + 1) refl; same_time = refl }));
        before = q.before;
        none = q.none;
        fresh = q.fresh;
        least = λ b. elim b [
          | inl lt ↦ omega arith
          | inr (e, inl lt) ↦ omega arith
          | inr (e, inr f) ↦ omega arith
        ];
        taken = (
          now ∷ 2 ∷ [],
          own_of_change s (hs ++ leader ∷ q.mid) now (members_in change) device state (length hs + 1) why p.follows,
          IsSource.following now (suc (length hs)) leader
              (record { there = numbered_here hs q.mid leader; same_time = refl }),
          inl p.one.moving.later,
        );
        takes = λ other vl link cause under. refl;
        apart = apart_two;
        aside = λ x i other yes_it.
            let split = parted x q.back i in
            let whole = q.parts
            ∙ ap (λ l. q.mid ++ l) split.2
            ∙ sym (append_assoc q.mid split.0 (x ∷ split.1)) in
            elim (hears_aside (q.mid ++ split.0) split.1 x other p.one.moving whole yes_it) [
              | inl lt ↦ apart_two other lt
              | inr own ↦ absurd (p.one.aside x (rw q.parts (in_right x q.mid q.back i))
                  other own yes_it)
            ];
      }

  pub two_well : IsWell s hs both now r more (λ y. ⊥)
  two_well =
      placed_well
      (rw q.parts at (placed_well (well_of p.one.moving) (placing_one p.one) first_carried))
      placing_two second_carried

  -- THE TWO ARE PUT IN, AND THE FRONTIER GOES BEHIND THEIR SOURCE
  pub two_by : IsAllOfIt s hs both (now ∷ r ∷ more)
      → AreSettled s hs both (now ∷ r ∷ more) (behind (now ∷ r ∷ more)) now
  two_by all =
      let at = now ∷ r ∷ more in
      let before : (x : Happening) → IsIn x (leader ∷ (q.mid ++ q.back)) → is_at_source x.note.body ≡ true
      → IsBefore (place_of x) (behind at) = λ x there.
      worked_then (behind at) p.one
      (λ is. subst (λ p_at. IsBefore p_at (behind at))
      (own_here s (hs ++ []) now (members_in leader) body at is p.one.mine) (before_behind at))
      x (rw q.parts there) in
      settled_by two_well p.one.moving.later
      (λ z i is. elim (in_parts z (leader ∷ q.mid) (change ∷ q.back) i) [
        | inl f ↦ before z (in_left z (leader ∷ q.mid) q.back f) is
        | inr (inl e) ↦ absurd (let bad : false ≡ true = ap (λ h. is_at_source h.note.body)
            (sym e) ∙ is in cc)
        | inr (inr b) ↦ before z (in_right z (leader ∷ q.mid) q.back b) is
      ]) all

-- ---- what is settled once a record that bears on no device is put in, and the frontier goes by its source

-- what a step that puts in a record starts from: the record is due at its place among those to come, and whatever comes
-- from the source is at that place
pub record IsPutting (s : Scenario) (hs front back : List Happening) (now r : ℕ) (more : List ℕ) (w : Happening) : Type 0 where
  pub one : IsOne s hs front back now r more w
  pub late : 8 ≤ r
  pub idle : IsIdle w.note.body
  pub own : (zs : List Happening) (y : Happening) → IsDueAs s (hs ++ zs) y → cause_of y.note.body ≤ length hs → time_of y ≡ now
      → IsOwnSource s (hs ++ zs) (time_of y) (members_in y) y.note.body (now ∷ r ∷ more) → place_of w ≡ place_of y

idle_last : (body : NoteBody) → IsIdle body → is_last body ≡ true
idle_last (notes.Left device link cause clock) i = refl
idle_last (notes.Lost device link cause) i = refl
idle_last (notes.Dropped device link cause reason) i = refl
idle_last (notes.Clock device reading adjustment state) i = refl
idle_last other i = absurd i

module _ {s : Scenario} {hs front back : List Happening} {now r : ℕ} {more : List ℕ} {w : Happening}
    (p : IsPutting s hs front back now r more w) where
  was_late : (y : Happening) → IsIn y (front ++ back) → (time_of y ≡ now) × (8 ≤ rank y.note.body)
  was_late y i =
      search (arith, at_least)

  put_late : (y : Happening) → IsIn y (front ++ w ∷ back) → (time_of y ≡ now) × (8 ≤ rank y.note.body)
  put_late y i =
      elim (in_parts y front (w ∷ back) i) [
        | inl f ↦ was_late y (in_left y front back f)
        | inr (inl e) ↦ rw e (p.one.at, idle_rank w.note.body p.idle)
        | inr (inr b) ↦ was_late y (in_right y front back b)
      ]

  all_of_it : IsAllOfIt s hs (front ++ w ∷ back) (now ∷ r ∷ more)
  all_of_it f rest y e before none due own =
      let at = own_time s (hs ++ f) (time_of y) (members_in y) y.note.body (now ∷ r ∷ more) own in
      let now_is : now ≡ time_of y = cc in
      let same : r ≡ at.0 = cc in
      let late = p.late in
      let low = at.3 in
      let high : 8 ≤ rank y.note.body = omega arith in
      let few = known_cause s hs f y.note.time y.note.body p.one.moving.forward p.one.given
      (λ h i. let it = put_late h (rw e (in_left h f rest i)) in (it.0 ∙ now_is, it.1)) high due.cause in
      (w, in_right w front (w ∷ back) (inl refl), p.own f y due few (sym now_is) own)

  pub settled_put : AreSettled s hs (front ++ w ∷ back) (now ∷ r ∷ more) (behind (now ∷ r ∷ more)) now
  settled_put = one_by p.one (last_unfollowed s hs now w.note.body (idle_last w.note.body p.idle)) all_of_it

-- ---- a device stands with the record as without it

pub known_put : {s : Scenario} (hs front back : List Happening) (w : Happening) → IsIdle w.note.body
    → AreOfNetwork s (hs ++ (front ++ back)) → AreOfNetwork s (hs ++ (front ++ w ∷ back))
known_put {s} hs front back w idle =
    known_aside hs front back w (λ device le. moves_no_other device w.note.body
    (idle_bears device w.note.body idle))

pub held_put : {M : Type 0} {stands : M → Network → DeviceId → Node → Type 0} {s : Scenario} {hs : List Happening}
    (front back : List Happening) {frontier : List ℕ} {now : ℕ} {device : DeviceId} {machine : M} (w : Happening)
    → IsIdle w.note.body → time_of w ≡ now → IsHeld stands s hs (front ++ back) frontier now device machine
    → IsHeld stands s hs (front ++ w ∷ back) frontier now device machine
held_put {s} {hs} front back {device} w idle at held =
    search (arith, idle_bears, held_aside, frames_aside, idle_taking)
