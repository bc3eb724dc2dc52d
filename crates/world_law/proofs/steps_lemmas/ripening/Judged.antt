-- What a device makes of a frame that is permanent, by the records and by what it heard before it.
use Rattle.std.proofs.{Common.MatchBool, lemmas.Bool.{MatchBool-at_false, or_parts}}
use Rattle.compression.specs.declared.taken.Taken.{Taken}
use Rattle.run_law.proofs.{law.FirstDeliveries.{due_is_there, front_founded, in_filter, in_front_of, number_is, split}}
use Rattle.run_law.proofs.{records.Order.{all_kept, before_is, from_earlier, is_earlier, none_any}}
use Rattle.run_law.proofs.{runs.Places.before_or_not, scenario.Devices.on_by}
use Rattle.world_law.proofs.{devices.{Standing.{IsInTime, in_time_of, looking_on, turning_state}, Unmoved.earlier_yes}}
use Rattle.world_law.proofs.{giving.GivenParts.in_get, putting.Near.not_is}
use Rattle.world_law.proofs.steps_lemmas.ripening.Ripens.{IsLateKind, IsRipe, all_late, filter_rest, fold_rest}
use Rattle.world_law.proofs.steps_lemmas.ripening.Ripens.{given_low, late_mere, maps_rest, mere_adjustment}
use Rattle.world_law.proofs.steps_lemmas.ripening.Ripens.{mere_changes, mere_joins, mere_point, reach_now, rest_ends}
use Rattle.world_law.proofs.steps_lemmas.ripening.Ripens.{ripe_more}
use Rattle.run_law.specs.{records.Order.is_before}
use Rattle.run_law.specs.control.{Collections.ripe_by_role, Hearing.{heard_by_schedule, heard_enough}}
use Rattle.run_law.specs.control.Permanence
use Permanence.{BecomesPermanent, IsCollectedOrDropped, IsJudgedBy, IsPermanenceOutcome, before_permanence}
use Rattle.world_law.{specs.world.World.IsJustTold}
use Rattle.world_law.proofs.steps_lemmas.Words
use Words.{if◌then◌else◌, ◌&&◌, ◌++◌, ◌+◌, ◌<◌, ◌==◌, ◌||◌, ◌∙◌, ◌∷◌, ◌≡◌, ◌≤◌, ◌⊎◌, AllBefore, Bool, ChangesState}
use Words.{DeviceId, Happening, HaveBefallen, Integrating, IsAtRest, IsBefore, IsCaused, IsDue, IsFounded, IsIn, IsLeft}
use Words.{IsMoving, IsOfThisTime, IsPermanenceOutcomeAt, IsRun, IsSource, IsTurnedOnBy, Joining, List, Members}
use Words.{Network, Node, None, NoneBefore, Note, NoteBody, Off, Option, Pcf, Point, Reason, Ripe, Scenario, Some}
use Words.{State, SyncPlan, Synchronised, Units, Waiting, Why, [], adjustment_after, adjustment_at_hearing}
use Words.{adjustment_before, adjustment_with, after_last, after_more, all_up_to, amount, and_parts, and_right, any_in}
use Words.{ap, append-nil, append_assoc, arith, both_ways, by_number, cases_Bool, cases_lt, chain, changed_at}
use Words.{changes_adjustment, correction_value, cycle_in, due_of, earlier, earlier_still, ends_stretch, eq-eqb}
use Words.{eqb-true, false, filter, filter-append, filter_map, fold, fold-append, founded_at, happening, has_cleared}
use Words.{has_joined_at, heard_as, in_left, in_parts, in_right, inl, inr, int_le, int_lt, is_broken, is_cm}
use Words.{is_integration_cycle, is_joined_by, is_off, is_timed, is_turned_on_at, is_turning, keeps_adjustment, key}
use Words.{last_or, le-ltb, length, list_any, lt-ltb, master_of, members_in, moves, nat_lt, ne_eqb, next_is_up_to}
use Words.{no_higher, none_kept, not_on_after, not_turned_on, numbered, numbered_front, numbered_in, numbered_parts}
use Words.{numbered_within, observation_window, option_map_or, or_left, or_none, parted, place_of, plan_of, point_at}
use Words.{point_by, points_of, quiet_rest, rank, record_of, recorded_cycle, refl, ripe_as, same_device, same_kept}
use Words.{some_same, state_after, state_at_hearing, state_before, state_with, subst, sym, time_of, true, turns_on, ℕ}
use Words.{ℤ}
use Rattle.compression.specs.declared.taken.Taken.TheVariants as takens
use Rattle.run_law.specs.declared.judgement.Why.TheVariants as whys
use Rattle.run_law.specs.declared.note.NoteBody.TheVariants as kinds
use Rattle.run_law.specs.declared.steps.Ripe.TheVariants as ripe

-- ---- a device that took part once is on from then on: no record turns a device off

-- does the record say in which state the device is?
abbrev pub stirs : DeviceId → NoteBody → Bool
stirs device (kinds.State other state cause why) = device.0 == other.0
stirs device other = is_joined_by device other

abbrev pub IsNeverOff : NoteBody → Type 0
IsNeverOff (kinds.State other state cause why) = is_off state ≡ false
IsNeverOff other = Unit {0}

changes_on : (s : Scenario) (js : List Happening) (device : DeviceId) (t : ℕ) (state : State) (cause : ℕ) (why : Why)
    → ChangesState s js device t state cause why → is_off state ≡ false
changes_on s js device t state cause whys.On c = ap is_off c.0
changes_on s js device t state cause other c = ap is_off c.0

pub due_on : (s : Scenario) (js : List Happening) (time : Units) (body : NoteBody) → IsCaused s js time body → IsNeverOff body
due_on s js time (kinds.State device state cause why) c = changes_on s js device (amount time) state cause why c
due_on s js time other c = tt

stays_on : (device : DeviceId) (old : State) (body : NoteBody) → IsNeverOff body → (is_off old ≡ false) ⊎ (stirs device body ≡ true)
    → is_off (state_with device old body) ≡ false
stays_on device old (kinds.State other state cause why) never so = grind (arith, cases_Bool, is_off, both_ways)
stays_on device old other never so = grind (arith, cases_Bool, is_joined_by, is_off, both_ways)

pub was_on : (device : DeviceId) (old : State) (body : NoteBody) → stirs device body ≡ false → state_with device old body ≡ old
was_on device old (kinds.State other state cause why) e = rw e
was_on device old other e = ap (λ b. if b then Joining else old) e

-- a record of the list says its state
abbrev pub Stirs : DeviceId → List Happening → Type 0
Stirs device l = (h : Happening) × IsIn h l × (stirs device h.note.body ≡ true)

pub awake : (device : DeviceId) (z : State) (l : List Happening) → ((h : Happening) → IsIn h l → IsNeverOff h.note.body) → (is_off z ≡ false) ⊎ Stirs device l
    → is_off (fold (λ state h. state_with device state h.note.body) z l) ≡ false
awake device z [] never (inl e) = e
awake device z [] never (inr none) = absurd none.1
awake device z (x ∷ l) never (inl e) =
    awake device (state_with device z x.note.body) l (λ h i. never h (inr i)) (inl (stays_on device z x.note.body (never x (inl refl)) (inl e)))
awake device z (x ∷ l) never (inr (h, inl same, st)) =
    awake device (state_with device z x.note.body) l (λ g i. never g (inr i))
    (inl (stays_on device z x.note.body (never x (inl refl)) (inr (rw (sym same) st))))
awake device z (x ∷ l) never (inr (h, inr i, st)) = awake device (state_with device z x.note.body) l (λ g j. never g (inr j)) (inr (h, i, st))

pub woken : (device : DeviceId) (z : State) (l : List Happening) → is_off (fold (λ state h. state_with device state h.note.body) z l) ≡ false
    → (is_off z ≡ false) ⊎ Stirs device l
woken device z [] e = inl e
woken device z (x ∷ l) e = grind (arith, state_with, cases_Bool, is_off, was_on, (woken device (state_with device z x.note.body) l e))

-- ---- an event that turned the device on has its record, and so has what came of it

pub on_recorded : {s : Scenario} {frontier : List ℕ} {hs : List Happening} {now : ℕ} (t : ℕ) (device : DeviceId)
    → IsRun place_of (IsDue s) frontier hs → ((p : List ℕ) → IsBefore p (now ∷ []) → IsBefore p frontier)
    → HaveBefallen s frontier now → t < now → is_turned_on_at s device t ≡ true → is_broken s device t ≡ false
    → (h : Happening) × IsIn h hs × (time_of h ≡ t) × (stirs device h.note.body ≡ true)
on_recorded {s} {frontier} {hs} t device run past befallen lt on sound =
    let it = any_in (λ e. turns_on device e.what && amount e.time == t) s.events on in
    let e = it.0 in
    let parts = and_parts (turns_on device e.what) (amount e.time == t) it.2 in
    let at = eqb-true (amount e.time) t parts.1 in
    let get = in_get s.events e it.1 in
    let line = get.0 + 1 in
    let at_event = split place_of (IsDue s) hs (amount e.time ∷ 1 ∷ line ∷ []) run.founded in
    let note : Note = record { number = length at_event.front + 1; time = e.time; body = kinds.Event line e.what } in
    let event = happening s.network at_event.front note in
    let there = due_is_there at_event run (grind (arith, get.0, get.1)) (befallen.told get.0 e get.1) in
    let number = length at_event.front + 1 in
    let at_state = split place_of (IsDue s) hs (amount e.time ∷ 7 ∷ device.0 ∷ number ∷ []) run.founded in
    let state_note : Note = record { number = length at_state.front + 1; time = e.time; body = kinds.State device Integrating number whys.On } in
    let state = happening s.network at_state.front state_note in
    let founded = front_founded place_of (IsDue s) at_state.front at_state.rest
    (rw at_state.whole at run.founded) in
    let in_front = in_front_of at_state event there (inr (refl, inl (omega arith))) in
    let state_due : IsDue s at_state.front state = record {
      number = refl;
      same = refl;
      begun = befallen.begun get.0 e get.1;
      cause = (
        refl,
        rw at sound,
        (
          line,
          event,
          record { there = by_number s at_state.front event founded in_front; same_time = refl },
          rw (on_by device e.what parts.0),
        ),
      );
    } in (
      state,
      due_is_there at_state run state_due (past _ (inl (omega arith))),
      at,
      eq-eqb device.0 device.0 refl,
    )

-- ---- so it is on at present

pub still_on : {s : Scenario} {frontier : List ℕ} {hs : List Happening} (front : List Happening) {now : ℕ} (t : ℕ)
    (device : DeviceId) → IsRun place_of (IsDue s) frontier hs
    → ((p : List ℕ) → IsBefore p (now ∷ []) → IsBefore p frontier)
    → HaveBefallen s frontier now → t ≤ now → ((h : Happening) → IsIn h front → IsIn h hs)
    → is_off (state_before s front device t) ≡ false → is_broken s device t ≡ false
    → is_off (state_before s hs device now) ≡ false
still_on {s} {hs} front {now} t device run past befallen le inside on sound =
    let start = Rattle.sync_state.specs.Standing.state_at_start (Rattle.run_law.specs.scenario.Devices.start_of s.network device) in
    let never : (h : Happening) → IsIn h (earlier now hs) → IsNeverOff h.note.body = λ h i.
    let at = Rattle.run_law.proofs.law.FirstDeliveries.founded_at s hs h run.founded (from_earlier now hs h i).0 in
    due_on s at.front h.note.time h.note.body at.due.cause in
    elim (cases_Bool (is_turned_on_at s device now)) [
      | inl turned ↦ rw turned
      | inr off ↦
          ap is_off (not_turned_on s hs device now off)
          ∙ awake device start (earlier now hs) never
          (elim (cases_Bool (is_turned_on_at s device t)) [
            | inl turned ↦
                let sooner : t < now = elim (cases_lt t now) [
                  | inl lt ↦ lt
                  | inr ge ↦
                      let same : t ≡ now = omega arith in
                      absurd (both_ways (is_turned_on_at s device now) off (rw same at turned))
                ] in
                let it = on_recorded t device run past befallen sooner turned sound in
                let early : time_of it.0 < now = omega arith in
                inr (it.0, is_earlier now hs it.0 it.1 early, it.3)
            | inr off_then ↦
                elim (woken device start (earlier t front) (ap is_off (sym (not_turned_on s front device t off_then)) ∙ on)) [
                  | inl z ↦ inl z
                  | inr (h, i, st) ↦
                      let it = from_earlier t front h i in
                      inr (h, is_earlier now hs h (inside h it.0) (omega arith), st)
                ]
          ])
    ]

-- ---- what is heard at a time counts as before it, where no frame has told the device the time at it: lists and places

pub none_of : {X : Type 0} (p : X → Bool) (xs : List X) (x : X) → list_any p xs ≡ false → IsIn x xs → p x ≡ false
none_of p [] x e i = absurd i
none_of {X} p (y ∷ xs) x e (inl same) = rw same (or_parts (p y) (list_any p xs) e).0
none_of p (y ∷ xs) x e (inr i) = none_of p xs x (or_parts (p y) (list_any p xs) e).1 i

-- ---- no frame has told it the time at this time

module _ (s : Scenario) (hs : List Happening) (device : DeviceId) (t : ℕ)
    (e : has_joined_at hs device t ≡ false) where
  pub not_joined : state_at_hearing s hs device t ≡ state_before s hs device t
  not_joined = rw e

  pub not_joined_yet : ((h : Happening) → IsIn h hs → time_of h ≤ t)
      → adjustment_at_hearing s hs device t ≡ adjustment_before s hs device t
  not_joined_yet all =
      grind (arith, adjustment_after, same_kept, nat_lt, time_of, is_joined_by, cases_lt, or_left, lt-ltb, eq-eqb, none_of, or_none)

role_for : (b : Bool) (P Q R : Type 0) → b ≡ false → MatchBool b P R → MatchBool b Q R
role_for b P Q R e m = rw e (MatchBool-at_false P R e m)

pub by_role : (n : Network) (device : DeviceId) (state : State) (adjustment : _) (points others : List Point) (frame : Pcf) (point : _) (is : Ripe)
    → (is_cm n device ≡ true → points ≡ others) → IsPermanenceOutcome n device state adjustment points frame point is
    → IsPermanenceOutcome n device state adjustment others frame point is
by_role n device state adjustment points others frame point is same so = grind (arith, cases_Bool, is_cm, role_for)

-- ---- a device that a frame has told the time at this very time stands as it hears further frames of the time

-- what is known of such a device
pub record IsTold (s : Scenario) (hs coming : List Happening) (now : ℕ) (e : Waiting) : Type 0 where
  pub ripe : IsRipe s hs coming now e
  pub just : IsJustTold s (hs ++ coming) e.device now
  pub turned : is_turned_on_at s e.device now ≡ true → IsTurnedOnBy (hs ++ coming) e.device now

-- ---- the records given

low_state : (device : DeviceId) (old : State) (body : NoteBody) → rank body ≤ 3
    → state_with device old body ≡ (if is_joined_by device body then Joining else old)
low_state device old (kinds.State other state cause why) low = absurd (omega arith)
low_state device old other low = refl

low_moves : (device : DeviceId) (body : NoteBody) → rank body ≤ 3 → is_joined_by device body ≡ false → moves device body ≡ false
low_moves device (kinds.State other state cause why) low e = absurd (omega arith)
low_moves device (kinds.Corrected other cycle by adjustment) low e = absurd (omega arith)
low_moves device other low e = e

pub if_same : {X : Type 0} (b : Bool) (x : X) → (if b then x else x) ≡ x
if_same true x = refl
if_same false x = refl

now_states : (device : DeviceId) (now : ℕ) (z : State) (l : List Happening) → ((h : Happening) → IsIn h l → (time_of h ≡ now) × (rank h.note.body ≤ 3))
    → fold (λ state h. state_with device state h.note.body) z l ≡ (if has_joined_at l device now then Joining else z)
now_states device now z [] low = refl
now_states device now z (h ∷ l) low =
    let this = low h (inl refl) in
    let time_is = eq-eqb (time_of h) now this.0 in
    let step = low_state device z h.note.body this.1 in
    elim (cases_Bool (is_joined_by device h.note.body)) [
      | inl joined ↦
          rw (step ∙ ap (λ b. if b then Joining else z) joined)
          (now_states device now Joining l (λ g i. low g (inr i))
          ∙ if_same (has_joined_at l device now) Joining
          ∙ sym (rw time_is
          (ap (λ b. if b || has_joined_at l device now then Joining else z) joined)))
      | inr not ↦
          rw (step ∙ ap (λ b. if b then Joining else z) not)
          (now_states device now z l (λ g i. low g (inr i))
          ∙ sym (rw time_is
          (ap (λ b. if b || has_joined_at l device now then Joining else z) not)))
    ]

in_time_rest : (x : Happening) (hs : List Happening) → IsInTime (x ∷ hs) → IsInTime hs
in_time_rest x hs sorted front rest y e h i = sorted (x ∷ front) rest y (rw e) h i

given_states : (device : DeviceId) (now : ℕ) (z : State) (hs : List Happening) → IsInTime hs → ((h : Happening) → IsIn h hs → time_of h ≤ now)
    → ((h : Happening) → IsIn h hs → time_of h ≡ now → rank h.note.body ≤ 3) → fold (λ state h. state_with device state h.note.body) z hs
    ≡ (if has_joined_at hs device now then Joining else fold (λ state h. state_with device state h.note.body) z (earlier now hs))
given_states device now z [] sorted past low = refl
given_states device now z (h ∷ hs) sorted past low =
    let f = λ (state : State) (g : Happening). state_with device state g.note.body in
    elim (cases_lt (time_of h) now) [
      | inl lt ↦
          let other = ne_eqb (time_of h) now (λ same. omega arith) in
          given_states device now (f z h) hs (in_time_rest h hs sorted) (λ g i. past g (inr i)) (λ g i. low g (inr i))
          ∙ sym (rw other
          (ap (λ l. if has_joined_at hs device now then Joining else fold f z l) (earlier_yes now h hs lt)))
      | inr ge ↦
          let le = past h (inl refl) in
          let late : (g : Happening) → IsIn g (h ∷ hs) → time_of g ≡ now = λ g i. elim i [
            | inl same ↦ (let at : time_of g ≡ time_of h = ap time_of same in omega arith)
            | inr more ↦ let from = sorted [] hs h refl g more in let to = past g (inr more) in omega arith
          ] in
          let none = none_kept (λ g. nat_lt (time_of g) now) (h ∷ hs)
          (λ g i. let at = late g i in le-ltb (time_of g) now (omega arith)) in
          now_states device now z (h ∷ hs) (λ g i. (late g i, low g i (late g i)))
          ∙ ap (λ l. if has_joined_at (h ∷ hs) device now then Joining else fold f z l) (sym none)
    ]

-- ---- the adjustment

low_adjustment : (s : Scenario) (device : DeviceId) (cycle : ℕ) (old : Units) (body : NoteBody) → rank body ≤ 3 → is_joined_by device body ≡ false
    → adjustment_with s device cycle old body ≡ old
low_adjustment s device cycle old body low e = keeps_adjustment s device cycle old body (low_moves device body low e)

fold_filter : {B : Type 0} (f : B → Happening → B) (q : Happening → Bool) (z : B) (hs : List Happening)
    → ((h : Happening) → IsIn h hs → q h ≡ false → (b : B) → f b h ≡ b) → fold f z hs ≡ fold f z (filter q hs)
fold_filter f q z [] same = refl
fold_filter {B} f q z (h ∷ hs) same =
    elim (cases_Bool (q h)) [
      | inl kept ↦ fold_filter f q (f z h) hs (λ g i. same g (inr i)) ∙ sym (rw kept)
      | inr left ↦ rw (same h (inl refl) left z) (fold_filter f q z hs (λ g i. same g (inr i))
          ∙ sym (rw left))
    ]

pub adjustment_now : {s : Scenario} {hs coming : List Happening} {now : ℕ} {e : Waiting}
    → IsRipe s hs coming now e → adjustment_after s (hs ++ coming) e.device
    ≡ adjustment_at_hearing s hs e.device now
adjustment_now {s} {hs} {coming} {now} {e} r =
    let f = λ (adjustment : Units) (h : Happening). adjustment_with s e.device (cycle_in h) adjustment h.note.body in
    let late = all_late r.moving r.run.within in
    let low = given_low hs (ripe_more e) r.run.within in
    fold_rest f _ hs coming (λ h i old. mere_adjustment s e.device (cycle_in h) old h.note.body (late_mere e.device h.note.body (late h i)))
    ∙ fold_filter f (λ h. nat_lt (time_of h) now || is_joined_by e.device h.note.body) _ hs (λ h i out old.
    let parts = or_parts (nat_lt (time_of h) now) (is_joined_by e.device h.note.body) out in
    let at : time_of h ≡ now = elim (cases_lt (time_of h) now) [
      | inl lt ↦ absurd (both_ways (nat_lt (time_of h) now) parts.0 (lt-ltb (time_of h) now lt))
      | inr ge ↦ (let le = r.past h i in omega arith)
    ] in
    low_adjustment s e.device (cycle_in h) old h.note.body (low h i at) parts.1)

-- ---- what is to come says of its state

-- it says nothing; or an event turned the device on; or a frame told it the time
abbrev IsSaid : List Happening → DeviceId → ℕ → NoteBody → Type 0
IsSaid hs device now body =
    (stirs device body ≡ false)
    ⊎ (((is_turning device body ≡ true) × ((other : DeviceId) × (cause : ℕ) × (h : Happening) × (body ≡ kinds.State other Integrating cause whys.On)
    × (numbered hs cause ≡ Some h) × (time_of h ≡ now) × (rank h.note.body ≡ 1)))
    ⊎ ((other : DeviceId) × (cause : ℕ) × (h : Happening) × (body ≡ kinds.State other Joining cause whys.Frame) × (numbered hs cause ≡ Some h)
    × (time_of h ≡ now)
    × (is_joined_by device h.note.body ≡ true)))

said_by : (s : Scenario) (hs front : List Happening) (device : DeviceId) {now : ℕ} (time : Units) (body : NoteBody)
    → ((y : Happening) → IsIn y front → IsLateKind y.note.body)
    → ((y : Happening) → IsIn y front → 4 ≤ rank y.note.body) → IsLateKind body → amount time ≡ now → IsCaused s (hs ++ front) time body
    → IsSaid hs device now body
said_by s hs front device time (kinds.State other state cause whys.On) late high kind at c =
    elim (cases_Bool (device.0 == other.0)) [
      | inr misses ↦ inl misses
      | inl own ↦
          let it = c.2.2 in
          let h = c.2.1 in
          let one : rank h.note.body ≡ 1 = ap rank c.2.3 in
          elim (numbered_parts hs front h cause it.there) [
            | inl given ↦
                inr (inl (
                  rw c.0 own,
                  (other, cause, h, rw c.0, given, it.same_time ∙ at, one),
                ))
            | inr more ↦ let four = high h more in absurd (omega arith)
          ]
    ]
said_by s hs front device time (kinds.State other state cause whys.Frame) late high kind at c =
    elim (cases_Bool (device.0 == other.0)) [
      | inr misses ↦ inl misses
      | inl own ↦
          let it = c.1.1 in
          let h = c.1.0 in
          let same = same_device other device (sym (eqb-true device.0 other.0 own)) in
          elim (numbered_parts hs front h cause it.there) [
            | inl given ↦
                inr (inr (
                  other,
                  cause,
                  h,
                  rw c.0,
                  given,
                  it.same_time ∙ at,
                  rw same at c.1.2,
                ))
            | inr more ↦ absurd (both_ways (is_joined_by other h.note.body) (mere_joins other h.note.body (late_mere other h.note.body (late h more))) c.1.2)
          ]
    ]
said_by s hs front device time other late high kind at c = inl (grind arith)

module _ {s : Scenario} {hs coming : List Happening} {now : ℕ} where
  high_rank : {more : List ℕ} → IsMoving s hs coming now 3 more
      → ((h : Happening) → IsIn h hs → IsBefore (place_of h) (now ∷ 3 ∷ more)) → (y : Happening) → IsIn y coming
      → 4 ≤ rank y.note.body
  high_rank {more} m within y i =
      by_kind y.note.body (all_late m within y i)
      (Rattle.world_law.proofs.runs.Worlds.at_least y now 3 more (m.are.of_now y i) (m.are.after y i))
    where
      by_kind : (body : NoteBody) → IsLateKind body → 3 ≤ rank body → 4 ≤ rank body
      by_kind (kinds.Permanent device link cause point verdict) late le = absurd late
      by_kind (kinds.Event line what) late le = absurd (omega arith)
      by_kind (kinds.Arrived device link cause clock) late le = absurd (omega arith)
      by_kind other late le = omega arith

  pub all_high : {e : Waiting} → IsRipe s hs coming now e → (y : Happening) → IsIn y coming
      → 4 ≤ rank y.note.body
  all_high r = high_rank r.moving r.run.within

  said : {e : Waiting} → IsRipe s hs coming now e → (z : Happening) → IsIn z coming
      → IsSaid hs e.device now z.note.body
  said {e} r z i =
      let at = parted z coming i in
      let inside : (y : Happening) → IsIn y at.0 → IsIn y coming =
      λ y j. rw at.2 (in_left y at.0 (z ∷ at.1) j) in
      let late = all_late r.moving r.run.within in
      let due = (r.moving.are.founded at.0 at.1 z at.2).1 in
      said_by s hs at.0 e.device z.note.time z.note.body (λ y j. late y (inside y j))
      (λ y j. all_high r y (inside y j))
      (late z i)
      (r.moving.are.of_now z i) due.cause

late_still : (device : DeviceId) (body : NoteBody) → IsLateKind body → stirs device body ≡ false → moves device body ≡ false
late_still device (kinds.Corrected other cycle by adjustment) late e = absurd late
late_still device (kinds.State other state cause why) late e = e
late_still device other late e = e

-- ---- a frame has told it the time

pub ends_in : (device : DeviceId) (z to : State) (a b : List Happening) (y : Happening) → ((old : State) → state_with device old y.note.body ≡ to)
    → ((h : Happening) → IsIn h b → state_with device to h.note.body ≡ to) → fold (λ state h. state_with device state h.note.body) z (a ++ y ∷ b) ≡ to
ends_in device z to a b y is stays =
    let f = λ (state : State) (h : Happening). state_with device state h.note.body in
    fold-append f z a (y ∷ b) ∙ ap (λ x. fold f x b) (is (fold f z a)) ∙ rest b stays
  where
    rest : (b : List Happening) → ((h : Happening) → IsIn h b → state_with device to h.note.body ≡ to) → fold (λ state h. state_with device state h.note.body)
        to b ≡ to
    rest [] stays = refl
    rest (x ∷ b) stays = rw (stays x (inl refl)) (rest b (λ h i. stays h (inr i)))

split_sorted : (p : List ℕ) (zs : List Happening)
    → ((front rest : List Happening) (z : Happening) → zs ≡ front ++ z ∷ rest → AllBefore place_of front (place_of z))
    → (front : List Happening) × (back : List Happening) × (zs ≡ front ++ back) × AllBefore place_of front p × NoneBefore place_of back p
split_sorted p [] sorted = ([], [], refl, λ n i. absurd i, λ n i. absurd i)
split_sorted p (z ∷ zs) sorted =
    elim (before_or_not (place_of z) p) [
      | inl lt ↦
          let more = split_sorted p zs (λ front rest y e. λ n i. sorted (z ∷ front) rest y (rw e) n (inr i)) in (
            z ∷ more.0,
            more.1,
            rw more.2,
            λ n i. elim i [ inl e ↦ rw e lt | inr j ↦ more.3 n j ],
            more.4,
          )
      | inr not ↦ (
        [],
        z ∷ zs,
        refl,
        λ n i. absurd i,
        λ n i b. elim i [
          | inl e ↦ not (rw e at b)
          | inr j ↦
              let at = parted n zs j in
              not (chain (place_of z) (place_of n) p (sorted (z ∷ at.0) at.1 n (ap (λ l. z ∷ l) at.2) z (inl refl)) b)
        ],
      )
    ]

state_parts : {d e : DeviceId} {s t : State} {c k : ℕ} {w y : Why} → kinds.State d s c w ≡ kinds.State e t k y → (s ≡ t) × (c ≡ k)
state_parts same = (cc, cc)

place_state : {t : ℕ} (m : ℕ) {now d n : ℕ} (body : NoteBody) → t ∷ rank body ∷ key m body ≡ now ∷ 7 ∷ d ∷ n ∷ []
    → (other : DeviceId) × (state : State) × (cause : ℕ)
    × (why : Why)
    × (body ≡ kinds.State other state cause why) × (other.0 ≡ d) × (cause ≡ n)
place_state m (kinds.State other state cause why) e = (other, state, cause, why, refl, cc, cc)
place_state m other e = absurd (grind arith)

-- of two records of the time, the event has the lower number
event_first : (s : Scenario) (hs : List Happening) {now : ℕ} (n c : ℕ) {j h : Happening} → IsFounded place_of (IsDue s)
    hs → numbered hs n ≡ Some j
    → numbered hs c ≡ Some h → time_of j ≡ now → time_of h ≡ now → rank h.note.body ≡ 1 → 2 ≤ rank j.note.body → c < n
event_first s hs n c {j} {h} founded at_n at_c j_now h_now one two =
    let split = founded_at s hs j founded (numbered_in hs n j at_n) in
    let number = number_is s hs n j founded at_n in
    let due = split.due.number in
    elim (Rattle.run_law.proofs.runs.Places.in_parts h split.front (j ∷ split.rest)
    (rw split.whole at (numbered_in hs c h at_c))) [
      | inl before ↦
          let own = by_number s split.front h split.founded before in
          let few = numbered_within split.front h.note.number h own in
          let is = number_is s hs c h founded at_c in
          omega arith
      | inr (inl same) ↦ (let r : rank h.note.body ≡ rank j.note.body = rw same in absurd (omega arith))
      | inr (inr later) ↦
          let at = parted h split.rest later in
          let whole = split.whole ∙ ap (λ l. split.front ++ j ∷ l) at.2
          ∙ sym (append_assoc split.front (j ∷ at.0) (h ∷ at.1)) in
          let before = (founded (split.front ++ j ∷ at.0) at.1 h whole).0 j (in_right j split.front (j ∷ at.0) (inl refl)) in
          elim (no_higher (time_of j) (rank j.note.body) (time_of h) (rank h.note.body) (key (members_in j) j.note.body) (key (members_in h) h.note.body)
          (inr before)) [
            | inl lt ↦ absurd (omega arith)
            | inr same ↦ let le = same.1 in absurd (omega arith)
          ]
    ]

joined_rank : (device : DeviceId) (body : NoteBody) → is_joined_by device body ≡ true → 2 ≤ rank body
joined_rank device (kinds.Permanent other link cause point verdict) e = omega arith
joined_rank device (kinds.Compressed other opened at cycle members verdict) e = omega arith
joined_rank device other e = absurd cc

told_joining : {s : Scenario} {hs coming : List Happening} {now : ℕ} {e : Waiting} (z : State)
    → IsTold s hs coming now e → has_joined_at hs e.device now ≡ true
    → fold (λ state h. state_with e.device state h.note.body) z coming ≡ Joining
told_joining {s} {hs} {coming} {now} {e} z told joined =
    let r = told.ripe in
    let m = r.moving in
    let device = e.device in
    let found = any_in (λ h. time_of h == now && is_joined_by device h.note.body) hs joined in
    let j = found.0 in
    let flags = and_parts (time_of j == now) (is_joined_by device j.note.body) found.2 in
    let j_now = eqb-true (time_of j) now flags.0 in
    let n = j.note.number in
    let at_n = by_number s hs j r.run.founded found.1 in
    let place = now ∷ 7 ∷ device.0 ∷ n ∷ [] in
    let cut = split_sorted place coming (λ front rest y eq. (m.are.founded front rest y eq).0) in
    let body = kinds.State device Joining n whys.Frame in
    let y = record_of s.network hs cut.0 now body in
    let of_time : IsOfThisTime (hs ++ cut.0) now n j = record { there = numbered_front hs cut.0 n j at_n; same_time = j_now } in
    let not_marked : IsBefore place (now ∷ 3 ∷ ripe_more e) → ⊥ = λ b.
    elim (no_higher now 7 now 3 (device.0 ∷ n ∷ []) (ripe_more e) (inr b)) [
      | inl lt ↦ omega arith
      | inr same ↦ let le = same.1 in omega arith
    ] in
    let there = m.are.full cut.0 cut.1 y cut.2 cut.3 cut.4 not_marked (due_of s hs cut.0 now body (refl, (j, of_time, flags.1)))
    (now ∷ 2 ∷ [], refl, IsSource.following now n j of_time, m.later) in
    let g = there.0 in
    let shape = place_state (members_in g) g.note.body there.2 in
    let own = eq-eqb device.0 (shape.0).0 (sym shape.5) in
    let at = parted g coming there.1 in
    let sets : (old : State) → state_with device old g.note.body ≡ Joining =
    λ old. elim (said r g there.1) [
      | inl quiet ↦ absurd (both_ways (stirs device g.note.body) quiet (ap (stirs device) shape.4 ∙ own))
      | inr (inl on) ↦
          let by = on.1 in
          let cause : by.1 ≡ n = (let same = sym by.3
          ∙ shape.4 in (state_parts same).1) ∙ shape.6 in
          let same = some_same by.2 j _ by.4 (ap (numbered hs) cause ∙ at_n) in
          let two = joined_rank device j.note.body flags.1 in
          let one = by.6 in
          let ranks : rank by.2.note.body ≡ rank j.note.body = ap (λ (x : Happening). rank x.note.body) same in
          absurd (omega arith)
      | inr (inr frame) ↦
          let is = sym (state_parts (sym frame.3 ∙ shape.4)).0 in
          ap (state_with device old) shape.4 ∙ ap (λ b. if b then shape.1 else old) own ∙ is
    ] in
    let rest : (h : Happening) → IsIn h at.1 → state_with device Joining h.note.body ≡ Joining = λ h i.
    let inside : IsIn h coming = rw at.2 (in_right h at.0 (g ∷ at.1) (inr i)) in
    elim (said r h inside) [
      | inl quiet ↦ was_on device Joining h.note.body quiet
      | inr (inr frame) ↦ ap (state_with device Joining) frame.3 ∙ if_same (device.0 == (frame.0).0) Joining
      | inr (inl on) ↦
          let by = on.1 in
          let more = parted h at.1 i in
          let whole = at.2 ∙ ap (λ l. at.0 ++ g ∷ l) more.2
          ∙ sym (append_assoc at.0 (g ∷ more.0) (h ∷ more.1)) in
          let before = (m.are.founded (at.0 ++ g ∷ more.0) more.1 h whole).0 g (in_right g at.0 (g ∷ more.0) (inl refl)) in
          let first = event_first s hs n by.1 r.run.founded at_n by.4 j_now by.5 by.6
          (joined_rank device j.note.body flags.1) in
          let own_h = eqb-true device.0 (by.0).0 (sym (ap (is_turning device) by.3) ∙ on.0) in
          let h_now = m.are.of_now h inside in
          let placed : IsBefore (now ∷ 7 ∷ device.0 ∷ n ∷ []) (now ∷ 7 ∷ (by.0).0 ∷ by.1 ∷ []) =
          subst (λ q. IsBefore q (now ∷ 7 ∷ (by.0).0 ∷ by.1 ∷ [])) there.2
          (subst (λ b. IsBefore (place_of g) (now ∷ rank b ∷ key (members_in h) b)) by.3
          (subst (λ t. IsBefore (place_of g) (t ∷ rank h.note.body ∷ key (members_in h) h.note.body)) h_now before)) in
          absurd (not_behind now device.0 n (by.0).0 by.1 own_h first placed)
    ] in
    ap (fold (λ state h. state_with device state h.note.body) z) at.2 ∙ ends_in device z Joining at.0 at.1 g sets rest
  where
    not_behind : (t d n o c : ℕ) → d ≡ o → c < n → IsBefore (t ∷ 7 ∷ d ∷ n ∷ []) (t ∷ 7 ∷ o ∷ c ∷ []) → ⊥
    not_behind t d n o c e lt (inl a) = omega arith
    not_behind t d n o c e lt (inr (x, inl a)) = omega arith
    not_behind t d n o c e lt (inr (x, inr (y, inl a))) = omega arith
    not_behind t d n o c e lt (inr (x, inr (y, inr (w, inl a)))) = omega arith
    not_behind t d n o c e lt (inr (x, inr (y, inr (w, inr (v, none))))) = none

-- ---- no frame has

module _ {s : Scenario} {hs coming : List Happening} {now : ℕ} {e : Waiting}
    (told : IsTold s hs coming now e) where
  told_looking : has_joined_at hs e.device now ≡ false
      → fold (λ state h. state_with e.device state h.note.body) (state_after s (earlier now hs) e.device) coming
      ≡ Integrating
  told_looking none =
      let r = told.ripe in
      let m = r.moving in
      let device = e.device in
      let late = all_late m r.run.within in
      let quiet : (h : Happening) → IsIn h coming → Rattle.world_law.proofs.devices.Standing.IsQuiet device
      h.note.body = λ h i.
      elim (said r h i) [
        | inl still ↦ inl (late_still device h.note.body (late h i) still)
        | inr (inl on) ↦ inr on.0
        | inr (inr frame) ↦
            absurd (both_ways (is_joined_by device (frame.2).note.body)
            (sym (rw (eq-eqb (time_of frame.2) now frame.5))
            ∙ none_of (λ g. time_of g == now && is_joined_by device g.note.body) hs frame.2 none
            (numbered_in hs frame.1 frame.2 frame.4)) frame.6)
      ] in
      elim (cases_Bool (is_turned_on_at s device now)) [
        | inr off ↦
            let same =
            earlier_still now hs coming (λ z i. let at = m.are.of_now z i in omega arith) in
            let start : state_after s (earlier now hs) device ≡ Integrating =
            rw (sym same) (sym
            (not_turned_on s (hs ++ coming) device now off) ∙ told.just.looking) in
            rw start (looking_on
            device coming quiet)
        | inl on ↦
            let by = told.turned on in
            let seven = turning_rank device by.by.note.body by.turning in
            let there : IsIn by.by coming = elim (Rattle.run_law.proofs.runs.Places.in_parts by.by hs coming by.there) [
              | inr more ↦ more
              | inl given ↦ (let low = given_low hs (ripe_more e) r.run.within by.by given by.at in
                  absurd (omega arith))
            ] in
            let at = parted by.by coming there in
            ap (fold (λ state h. state_with device state h.note.body) (state_after s (earlier now hs) device)) at.2
            ∙ ends_in device _ Integrating at.0 at.1 by.by
            (λ old. turning_state device old by.by.note.body by.turning) (λ h i.
            elim (quiet h (rw at.2 (in_right h at.0 (by.by ∷ at.1) (inr i)))) [
              | inl still ↦ Rattle.world_law.proofs.devices.Unmoved.keeps_state device Integrating h.note.body still
              | inr turning ↦ turning_state device Integrating h.note.body turning
            ])
      ]
    where
      turning_rank : (device : DeviceId) (body : NoteBody) → is_turning device body ≡ true → rank body ≡ 7
      turning_rank device (kinds.State other Integrating cause whys.On) t = refl
      turning_rank device other t = absurd cc

  pub state_now : state_after s (hs ++ coming) e.device ≡ state_at_hearing s hs e.device now
  state_now =
      let r = told.ripe in
      let device = e.device in
      let f = λ (state : State) (h : Happening). state_with device state h.note.body in
      let low = given_low hs (ripe_more e) r.run.within in
      let given =
      given_states device now _ hs (in_time_of s hs r.run.founded) r.past low in
      let same =
      earlier_still now hs coming (λ z i. let at = r.moving.are.of_now z i in omega arith) in
      let looking =
      sym (rw same) ∙ told.just.looking in
      fold-append f _ hs coming
      ∙ elim (cases_Bool (has_joined_at hs device now)) [
        | inl joined ↦ told_joining _ told joined
            ∙ sym (rw joined)
        | inr none ↦
            ap (λ x. fold f x coming) (given ∙ ap
            (λ b. if b then Joining else state_after s (earlier now hs) device) none)
            ∙ told_looking none
            ∙ sym looking ∙ sym (ap (λ b. if b then Joining else state_before s hs device now) none)
      ]

-- ---- what a device's machine makes of a frame that is permanent is what the records given say: places as tests

-- the records given are all those before the place
pub judged_all : {s : Scenario} {hs coming : List Happening} (front : List Happening)
    {now : ℕ} {e : Waiting} → IsRipe s hs coming now e
    → ((h : Happening) → IsIn h front → IsBefore (place_of h) (now ∷ 3 ∷ ripe_more e) → ⊥)
    → before_permanence (hs ++ front) e.device now e.link e.cause e.frame e.point ≡ hs
judged_all {hs} front {now} {e} r after =
    let here = now ∷ 3 ∷ ripe_more e in
    let q = λ (h : Happening). is_before (place_of h) (now ∷ 3 ∷ e.device.0 ∷ amount e.point ∷ e.frame.members.0 ∷ e.link.0 ∷ e.cause ∷ []) in
    let given = all_kept q hs (λ h i. before_is (place_of h) here
    (r.run.within h i)) in
    let none = none_kept q front (λ h i. not_is (place_of h) here (after h i)) in
    filter-append q hs front ∙ (rw none (append-nil (filter q hs) ∙ given))

-- ---- where the device stands as it hears

pub record Hears (s : Scenario) (hs : List Happening) (device : DeviceId) (now : ℕ) (node : Node) : Type 0 where
  pub state : node.standing.state ≡ state_at_hearing s hs device now
  pub adjustment : node.standing.adjustment ≡ adjustment_at_hearing s hs device now
  pub points : is_cm s.network device ≡ true → node.points ≡ points_of hs device

pub judges_so : {s : Scenario} {hs : List Happening} {device : DeviceId} {now : ℕ} {node : Node} (frame : Pcf)
    (point : Units) (is : Ripe) → Hears s hs device now node
    → IsPermanenceOutcomeAt s.network device node frame point is → IsJudgedBy s hs device now frame point is
judges_so frame point is hears so = grind (arith, by_role, points_of, state_at_hearing)

-- the points are those of the records given
pub points_given : (s : Scenario) (hs coming : List Happening) (device : DeviceId) → ((z : Happening) → IsIn z coming → IsLateKind z.note.body)
    → ((z : Happening) → IsIn z coming → ends_stretch device z.note.body ≡ false) → points_of (hs ++ coming) device ≡ points_of hs device
points_given s hs coming device late open_ = grind (arith, filter_map, point_by, after_more, ends_stretch, maps_rest, after_last, mere_point, late_mere)

-- where no frame has told it the time
pub hears_before : {s : Scenario} {hs coming : List Happening} {now : ℕ} {e : Waiting}
    {node : Node} → IsRipe s hs coming now e → IsLeft s (hs ++ coming) e.device now node
    → ((h : Happening) → IsIn h (hs ++ coming) → time_of h ≡ now → IsAtRest s e.device now h.note.body)
    → Hears s hs e.device now node
hears_before {s} {hs} {coming} {now} {e} r left still =
    let device = e.device in
    let same = earlier_still now hs coming (λ z i. omega arith) in
    let late = all_late r.moving r.run.within in
    let none = none_any (λ h. time_of h == now && is_joined_by device h.note.body) hs (λ h i.
    elim (cases_Bool (time_of h == now)) [
      | inr other ↦ rw other
      | inl at ↦
          rw at
          (Rattle.world_law.proofs.devices.Standing.quiet_joins device h.note.body
          (quiet_rest s device now h.note.body (still h (in_left h hs coming i) (eqb-true (time_of h) now at))))
    ]) in
    record {
      state =
          left.state ∙ (rw same
          (sym (not_joined s hs device now none)));
      adjustment = left.counted.adjustment ∙ (rw same (sym (not_joined_yet s hs device now none r.past)));
      points = λ cm.
          left.points cm
          ∙ points_given s hs coming device late
          (λ z i. rest_ends s device now z.note.body (late z i) (still z (in_right z hs coming i) (r.moving.are.of_now z i)));
    }

-- all records are earlier than the next time
pub all_earlier : {s : Scenario} {hs coming : List Happening} {now : ℕ} {e : Waiting}
    → IsRipe s hs coming now e → earlier (now + 1) (hs ++ coming) ≡ hs ++ coming
all_earlier {hs} {coming} {now} r =
    next_is_up_to now (hs ++ coming) ∙ all_up_to now (hs ++ coming) (λ h i. elim (in_parts h hs coming i) [
      | inl given ↦ r.past h given
      | inr more ↦ omega arith
    ])

-- where one has
pub hears_told : {s : Scenario} {hs coming : List Happening} {now : ℕ} {e : Waiting}
    {node : Node} → IsTold s hs coming now e → IsLeft s (hs ++ coming) e.device (now + 1) node
    → Hears s hs e.device now node
hears_told told left =
    grind (arith, all_earlier, not_turned_on, not_on_after, state_after, state_now, adjustment_after, adjustment_now, both_ways, is_cm)

-- ---- what it may become

abbrev pub IsKindOf : Bool → Ripe → Type 0
IsKindOf true ripe.Opened = Unit {0}
IsKindOf true ripe.Joined = Unit {0}
IsKindOf true ripe.Repeat = Unit {0}
IsKindOf true (ripe.Dropped reason) = Unit {0}
IsKindOf false ripe.Within = Unit {0}
IsKindOf false ripe.Outside = Unit {0}
IsKindOf false ripe.Integrates = Unit {0}
IsKindOf false ripe.Ignored = Unit {0}
IsKindOf cm other = ⊥

role_kind : (taken : Taken) → IsKindOf true (ripe_by_role taken)
role_kind takens.Opened = tt
role_kind other = tt

schedule_kind : (b : Bool) → IsKindOf false (ripe_as (heard_by_schedule b))
schedule_kind true = tt
schedule_kind false = tt

enough_kind : (b : Bool) → IsKindOf false (ripe_as (heard_enough b))
enough_kind true = tt
enough_kind false = tt

heard_kind : (plan : SyncPlan) (precision : ℤ) (state : State) (adjustment point : ℤ) (cycle : ℕ) (members : Members)
    → IsKindOf false (ripe_as (heard_as plan precision state adjustment point cycle members))
heard_kind plan precision Off adjustment point cycle members = tt
heard_kind plan precision Integrating adjustment point cycle members = enough_kind _
heard_kind plan precision Joining adjustment point cycle members = schedule_kind _
heard_kind plan precision Synchronised adjustment point cycle members = schedule_kind _

collected_kind : (network : Network) (points : List Point) (point : Point) (fault : Option Reason) (is : Ripe)
    → IsCollectedOrDropped network points point fault is → IsKindOf true is
collected_kind network points point (Some reason) is c = subst (IsKindOf true) (sym c) tt
collected_kind network points point None is c = subst (IsKindOf true) (sym c.becomes) (role_kind c.taken)

pub outcome_kind : (network : Network) (device : DeviceId) (state : State) (adjustment : ℤ) (points : List Point) (frame : Pcf) (point : ℤ) (is : Ripe)
    → IsPermanenceOutcome network device state adjustment points frame point is → IsKindOf (is_cm network device) is
outcome_kind network device state adjustment points frame point is so =
    grind (arith, cases_Bool, is_cm, collected_kind, point_at, master_of, heard_kind, plan_of, observation_window)

-- ---- so the record is due

abbrev pub becomes_now : (s : Scenario) (hs coming front : List Happening) (now : ℕ) (e : Waiting) (node : Node) (is : Ripe)
    → IsRipe s hs coming now e → ((h : Happening) → IsIn h front → IsBefore (place_of h) (now ∷ 3 ∷ ripe_more e) → ⊥) → Hears s hs e.device now node
    → IsPermanenceOutcomeAt s.network e.device node e.frame e.point is → BecomesPermanent s (hs ++ front) e.device now e.link e.cause e.point is
becomes_now s hs coming front now e node is r after hears so = record {
  frame = e.frame;
  permanent = record {
    arrival = r.it.arrival;
    there = numbered_front hs front e.cause r.it.arrival r.it.there;
    from = r.it.awaited.from;
    clock = r.it.awaited.clock;
    arrived = r.it.awaited.arrived;
    of_frame = r.it.awaited.of_frame;
    waits = r.it.awaited.waits;
    at_point = r.it.awaited.at_point;
    reached = reach_now r;
    correct = r.sound;
  };
  becomes = rw (judged_all front r after) (judges_so e.frame e.point is hears so);
}

-- ---- what it has cleared does not count at the instant of a join

pub last_behind : (xs ys : List Happening) (j : Happening) (o : Option Happening) → last_or o (xs ++ j ∷ ys) ≡ last_or (Some j) ys
last_behind [] ys j o = refl
last_behind (x ∷ xs) ys j o = last_behind xs ys j (Some x)

last_time : {now : ℕ} (x : Happening) (ys : List Happening) → time_of x ≡ now
    → ((y : Happening) → IsIn y ys → time_of y ≡ now)
    → option_map_or time_of (last_or (Some x) ys) 0 ≡ now
last_time x [] at all = at
last_time {now} x (y ∷ ys) at all = last_time y ys (all y (inl refl)) (λ z i. all z (inr i))

changed_now : {s : Scenario} {hs coming : List Happening} {now : ℕ} {e : Waiting}
    → IsRipe s hs coming now e → has_joined_at hs e.device now ≡ true
    → changed_at (hs ++ coming) e.device (now + 1) ≡ now
changed_now {s} {hs} {coming} {now} {e} r joined =
    let device = e.device in
    let p = λ (h : Happening). changes_adjustment device h.note.body in
    let found = any_in (λ h. time_of h == now && is_joined_by device h.note.body) hs joined in
    let j = found.0 in
    let flags = and_parts (time_of j == now) (is_joined_by device j.note.body) found.2 in
    let j_now = eqb-true (time_of j) now flags.0 in
    let at = parted j hs found.1 in
    let late = all_late r.moving r.run.within in
    let rest : (y : Happening) → IsIn y (filter p at.1) → time_of y ≡ now = λ y i.
    let inside = in_filter p at.1 y i in
    let from = in_time_of s hs r.run.founded at.0 at.1 j at.2 y inside in
    let to = r.past y (rw at.2 (in_right y at.0 (j ∷ at.1) (inr inside))) in
    omega arith in
    let lists : filter p (earlier (now + 1) (hs ++ coming)) ≡ filter p at.0 ++ j ∷ filter p at.1 =
    ap (filter p) (all_earlier r)
    ∙ filter_rest p hs coming (λ h i. mere_changes device h.note.body (late_mere device h.note.body (late h i)))
    ∙ ap (filter p) at.2 ∙ filter-append p at.0 (j ∷ at.1)
    ∙ ap (λ b. filter p at.0 ++ (if b then j ∷ filter p at.1 else filter p at.1))
    (joined_changes device j.note.body flags.1) in
    rw lists
    (ap (λ o. option_map_or time_of o 0) (last_behind (filter p at.0) (filter p at.1) j None)
    ∙ last_time j (filter p at.1) j_now rest)
  where
    joined_changes : (device : DeviceId) (body : _) → is_joined_by device body ≡ true → changes_adjustment device body ≡ true
    joined_changes device (Rattle.run_law.specs.declared.note.NoteBody.TheVariants.Corrected other cycle by adjustment) e = absurd cc
    joined_changes device other e = e

-- right after a change nothing has come to what its clock showed then, or to what lies before
pub not_yet : (a v : ℤ) → (int_lt a v && int_le v a) ≡ false
not_yet a v = grind (arith, and_right)

none_cleared : (s : Scenario) (hs : List Happening) (device : DeviceId) {now : ℕ} → changed_at hs device (now + 1) ≡ now
    → has_cleared s hs device (now + 1) (now + 1) ≡ false
none_cleared s hs device at =
    grind (arith, correction_value, recorded_cycle, earlier, adjustment_before, and_right, is_integration_cycle, int_lt, int_le, not_yet)

-- a device that has a next correction point then was told the time
pub timed_joined : (s : Scenario) (hs : List Happening) (device : DeviceId) (now : ℕ) {state : State}
    → state ≡ state_at_hearing s hs device now
    → state_before s hs device now ≡ Integrating → is_timed state ≡ true → has_joined_at hs device now ≡ true
timed_joined s hs device now is looking timed = grind
    (arith, cases_Bool, has_joined_at, both_ways, is_timed, state_before)

pub cleared_told : {s : Scenario} {hs coming : List Happening} {now : ℕ} {e : Waiting}
    {node : Node} → IsTold s hs coming now e → Hears s hs e.device now node
    → is_timed node.standing.state ≡ true → has_cleared s (hs ++ coming) e.device (now + 1) (now + 1) ≡ false
cleared_told {s} {hs} {coming} {now} {e} {node} told hears timed =
    let r = told.ripe in
    let same = earlier_still now hs coming (λ z i. omega arith) in
    let looking =
    sym (rw same) ∙ told.just.looking in
    none_cleared s (hs ++ coming) e.device
    (changed_now r (timed_joined s hs e.device now hears.state looking timed))
