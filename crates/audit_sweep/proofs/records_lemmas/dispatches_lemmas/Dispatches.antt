-- What devices dispatch by the rows of their links, as senders or of frames at hand, and when.
use Rattle.std.proofs.{Math.Nat.mul-mod_left}
use Rattle.std.proofs.Common
use Common.{if◌then◌else◌, ◌%◌, ◌*◌, ◌++◌, ◌+ℤ◌, ◌+◌, ◌-◌, ◌/◌, ◌<◌, ◌^◌, ◌↔◌, ◌∙◌, ◌∷◌, ◌≡◌, ◌≤◌, ◌⊎◌, Bool, Global}
use Common.{IsTrue, List, None, Option, Some, Vec, [], ap, arith, false, filter, inl, inr, length, mul-le-mul_right}
use Common.{pos, refl, slice_get, slice_index_or, subst, suc, sym, true, zero, ℕ, ℤ}
use Rattle.std.proofs.lemmas.{Bool.{and_parts, cases_lt, eq-eqb, eqb-true, false≢true, or_right}, Int.ints}
use Rattle.std.proofs.lemmas.{Nat.{div-add-mod', mod-mul-add}, Option.{same_Some, slice_get_past, slice_get_within}}
use Rattle.std.specs.{List.last_or, Option.option_map_or}
use Rattle.std.specs.{Prelude.{◌&&◌, ◌==◌, ◌||◌, is_some, not, option_and_then, option_map}}
use Rattle.audit_devices.proofs.clocks_lemmas.Reached.{come_reaches, reaches_come}
use Rattle.audit_devices.specs.{Showing.{IsSteady, Shown, Shows}, Taking.{taken_at, taken_by, taking_of}}
use Rattle.audit_devices.specs.{clocks.Finding.{CrossesAt, IsNextOrNone, NoneCrossed, value_in}}
use Rattle.audit_devices.specs.{declared.{clocks.finding.{Crossed.Crossed, Series.Series}, taking.Taking.Taking}}
use Rattle.audit_law.specs.events.Readings.{ReadsOn}
use Rattle.audit_sweep.specs.declared.records.{kept.Kept.Kept}
use Rattle.audit_sweep.specs.declared.records.dispatches.{exits.Exits.Exits}
use Rattle.audit_sweep.specs.declared.records.dispatches.{leaving.{Dispatch.Dispatch, LeavingRow.LeavingRow}}
use Rattle.audit_sweep.specs.records.{Keeping.kept_of}
use Rattle.audit_sweep.specs.records.dispatches.{Crossing.{IsCrossingOrNone, first_time}}
use Rattle.audit_sweep.specs.records.dispatches.{Dispatched.{IsAcceptedLast, IsAtHand, SomeDispatched, holds, is_last}}
use Rattle.audit_sweep.specs.records.dispatches.{Exits.{AreExits, AreNoRows, rows_on}}
use Rattle.audit_sweep.specs.records.dispatches.{Judged.{DispatchesSome, IsKeptOf}}
use Rattle.audit_sweep.specs.records.dispatches.{Leaving.{AreRowsOn, HavePeriods, IsRowOn, leaving_by}}
use Rattle.audit_sweep.specs.records.dispatches.{Leavings.{AreLeavings, IsRowFit, cycle_of, first_cycle, leaving_value}}
use Rattle.audit_sweep.specs.records.dispatches.{Passed.passed_as}
use Rattle.audit_sweep.specs.records.dispatches.Sent
use Sent.{AreFoundByNumber, AreRowsFit, CrossesSome, ReachesSome, SendsBy, SendsBySome, SendsSome}
use Rattle.net_plan.{proofs.InRange.amount_most}
use Rattle.net_plan.specs.{Ranges.{IsInRange, IsRowInRange, IsVlInRange}}
use Rattle.net_plan.specs.{declared.{ids.{DeviceId.DeviceId, LinkId.LinkId, VlId.VlId}, network.Network.Network}}
use Rattle.run_law.{proofs.{law.FirstDeliveries.accepted_in, runs.Places.{in_left, in_parts, in_right}}}
use Rattle.run_law.specs.{declared.note.NoteBody.NoteBody}
use Rattle.run_law.specs.{records.{Happenings.{Happening, earlier, numbered, time_of}, Order.IsIn}}
use Rattle.run_law.specs.{scenario.{Devices.is_end, Scenarios.Scenario}}
use Rattle.run_law.specs.{timed.Dispatching.{Dispatches, HasAccepted, HasAtHand, IsUp, is_accepted, last_accepted}}
use Rattle.schedule_tables.{proofs.SlotLemmas.one_entry, specs.{Entries.IsEntry, declared.entry.Entry.Entry}}
use Rattle.tte_units.{proofs.general_lemmas.{Lists.in_all, Naturals.below_next}, specs.Amount.amount}
use Rattle.audit_sweep.specs.declared.records.kept.Kept.TheVariants as kepts
use Rattle.run_law.specs.declared.note.NoteBody.TheVariants as notes

-- ---- when a device has a frame at hand: the last that passes has passed

last_from : {X : Type 0} (p : X → Bool) (o : Option X) (xs : List X) (y : X) → ((x : X) → o ≡ Some x → p x ≡ true) → last_or o (filter p xs) ≡ Some y
    → p y ≡ true
last_from p o [] y start e = start y e
last_from {X} p o (x ∷ xs) y start e = by (p x) refl (λ u. last_from p u xs y) e
  where
    by : (b : Bool) → p x ≡ b → ((u : Option X) → ((z : X) → u ≡ Some z → p z ≡ true) → last_or u (filter p xs) ≡ Some y → p y ≡ true)
        → last_or o (if b then x ∷ filter p xs else filter p xs) ≡ Some y → p y ≡ true
    by true is rest e = rest (Some x) (λ z same. let one : x ≡ z = cc in ap p (sym one) ∙ is) e
    by false is rest e = rest o start e

-- ---- the frame that was accepted last

-- the record is that of this frame
record IsOfTaking (device : DeviceId) (vl : VlId) (number : ℕ) (body : NoteBody) (taking : Taking) : Type 0 where
  pub link : LinkId
  pub from : ℕ
  pub is : body ≡ notes.Accepted device link from vl taking.cycle
  pub same_number : number ≡ taking.number

of_taking : (device : DeviceId) (vl : VlId) (time number : ℕ) (body : NoteBody) (taking : Taking) → is_accepted device vl body ≡ true
    → option_and_then (taken_at device vl) (taken_by time number body) ≡ Some taking → IsOfTaking device vl number body taking
of_taking device vl time number (notes.Accepted other link from of_vl cycle) taking is made =
    let both = and_parts (device.0 == other.0) (vl.0 == of_vl.0) is in
    let made_by : Taking = record { time = time; link = link; cause = from; number = number; cycle = cycle } in
    let some : Some made_by ≡ Some taking = sym (ap (λ (b : Bool). if b then Some made_by else None) is) ∙ made in
    let one : made_by ≡ taking = cc in
    let device_of : ℕ → DeviceId = λ n. record { 0 = n } in
    let vl_of : ℕ → VlId = λ n. record { 0 = n } in
    record {
      link = link;
      from = from;
      is = ap (λ (d : DeviceId). notes.Accepted d link from of_vl cycle) (sym (ap device_of (eqb-true device.0 other.0 both.0)))
          ∙ ap (λ (v : VlId). notes.Accepted device link from v cycle) (sym (ap vl_of (eqb-true vl.0 of_vl.0 both.1)))
          ∙ ap (λ (t : Taking). notes.Accepted device link from vl t.cycle) one;
      same_number = ap (λ (t : Taking). t.number) one;
    }
of_taking device vl time number body taking is made = absurd cc

accepted_as : (hs : List Happening) (device : DeviceId) (vl : VlId) (t cause cycle : ℕ) (taking : Taking) (o : Option Happening)
    → last_accepted hs device vl t ≡ o
    → option_and_then (taking_of device vl) o ≡ Some taking → taking.number ≡ cause → taking.cycle ≡ cycle → HasAccepted hs device vl t cause cycle
accepted_as hs device vl t cause cycle taking None last made number same = absurd cc
accepted_as hs device vl t cause cycle taking (Some h) last made number same =
    let passed = last_from (λ x. is_accepted device vl x.note.body) None (earlier t hs) h (λ x e. absurd cc) last in
    let is = of_taking device vl (time_of h) h.note.number h.note.body taking passed made in
    record {
      taken = h;
      last = last;
      number = sym number ∙ sym is.same_number;
      link = is.link;
      from = is.from;
      is = is.is ∙ ap (λ (n : ℕ). notes.Accepted device is.link is.from vl n) same;
    }

-- ---- the test

pub held : (x y e l : Bool) → ((x && y) || (not e && l)) ≡ true → ((x ≡ true) × (y ≡ true)) ⊎ ((e ≡ false) × (l ≡ true))
held true true e l is = inl (refl, refl)
held true false false true is = inr (refl, refl)
held true false false false is = absurd cc
held true false true l is = absurd cc
held false y false true is = inr (refl, refl)
held false y false false is = absurd cc
held false y true l is = absurd cc

module _ (network : Network) (hs : List Happening) (device sender : DeviceId) (vl : VlId) (t cause cycle : ℕ)
    (accepted : Option Taking) (so : IsAcceptedLast network hs device vl t accepted) where
  pub held_so : holds (sender.0 == device.0) cause (is_end network device) (is_last accepted cause cycle) ≡ true
      → IsAtHand network hs device sender vl t cause cycle
  held_so is =
      by (held (sender.0 == device.0) (cause == 0) (is_end network device) (is_last accepted cause cycle) is)
    where
      by_last : (o : Option Taking) → option_and_then (taking_of device vl) (last_accepted hs device vl t) ≡ o
          → is_last o cause cycle ≡ true
          → HasAccepted hs device vl t cause cycle
      by_last None made last = absurd cc
      by_last (Some taking) made last =
          let both = and_parts (taking.number == cause) (taking.cycle == cycle) last in
          accepted_as hs device vl t cause cycle taking (last_accepted hs device vl t) refl made
          (eqb-true taking.number cause both.0)
          (eqb-true taking.cycle cycle both.1)

      by : (((sender.0 == device.0) ≡ true) × ((cause == 0) ≡ true))
          ⊎ ((is_end network device ≡ false) × (is_last accepted cause cycle ≡ true))
          → IsAtHand network hs device sender vl t cause cycle
      by (inl (same, none)) =
          let device_of : ℕ → DeviceId = λ n. record { 0 = n } in
          inl (ap device_of (eqb-true sender.0 device.0 same), eqb-true cause 0 none)
      by (inr (switch, last)) = inr (switch, by_last accepted (so switch) last)

  -- and the other way
  pub so_held : IsAtHand network hs device sender vl t cause cycle
      → holds (sender.0 == device.0) cause (is_end network device) (is_last accepted cause cycle) ≡ true
  so_held (inl (same, none)) = grind (arith, eq-eqb)
  so_held (inr (switch, has)) = grind (arith, or_right, eq-eqb)

-- ---- what a switch dispatches of a frame that it took

accepted_kept : {hs : List Happening} {device : DeviceId} {vl : VlId} {t cause cycle : ℕ} (kept : Option Kept)
    → AreFoundByNumber hs → IsKeptOf hs cause kept → HasAccepted hs device vl t cause cycle
    → kept ≡ Some (kepts.Accepted device vl cycle)
accepted_kept {hs} {device} {vl} {t} {cause} {cycle} kept found is has =
    let h = has.taken in
    let there : numbered hs cause ≡ Some h =
    subst (λ n. numbered hs n ≡ Some h) (sym has.number) (found h (accepted_in has)) in
    is ∙ ap (option_map (λ (x : Happening). kept_of x.note.body)) there ∙ ap (λ b. Some (kept_of b)) has.is

by_hand : (network : Network) {hs : List Happening} {device : DeviceId} (entry : Entry) {t cause cycle : ℕ}
    (kept : Option Kept) → AreFoundByNumber hs → IsKeptOf hs cause kept → (cause ≡ 0 → ⊥)
    → HasAtHand network hs device entry t cause cycle → kept ≡ Some (kepts.Accepted device entry.row.vl cycle)
by_hand network entry kept found is some (inl (sends, none)) = absurd (some none)
by_hand network entry kept found is some (inr (switch, has)) = accepted_kept kept found is has

-- what is dispatched by a record is what it took
pub passed_is : {s : Scenario} {hs : List Happening} {device : DeviceId} {t : ℕ} {link : LinkId} {cause : ℕ}
    {vl : VlId} {cycle : ℕ} (kept : Option Kept) → AreFoundByNumber hs → IsKeptOf hs cause kept → (cause ≡ 0 → ⊥)
    → Dispatches s hs device t link cause vl cycle → passed_as link cause kept
    ≡ Some (record { link = link; cause = cause; vl = vl; cycle = cycle })
passed_is {s} {link} {cause} {vl} {cycle} kept found is some does =
    let made : VlId → Dispatch = λ v. record { link = link; cause = cause; vl = v; cycle = cycle } in
    ap (passed_as link cause) (by_hand s.network does.entry kept found is some does.at_hand)
    ∙ ap (λ v. Some (made v)) does.of_vl

passed_link : (link : LinkId) (cause : ℕ) (kept : Option Kept) (dispatch : Dispatch) → passed_as link cause kept ≡ Some dispatch
    → (dispatch.link ≡ link) × (dispatch.cause ≡ cause)
passed_link link cause None dispatch e = absurd cc
passed_link link cause (Some (kepts.Accepted by vl cycle)) dispatch e =
    let one = same_Some _ _ e in
    (sym (ap (λ (d : Dispatch). d.link) one), sym (ap (λ (d : Dispatch). d.cause) one))
passed_link link cause (Some kept) dispatch e = absurd cc

module _ (s : Scenario) (hs : List Happening) (device : DeviceId) (t : ℕ) (link : LinkId) (cause : ℕ)
    (kept : Option Kept) where
  pub passed_some : (dispatch : Dispatch) → AreFoundByNumber hs → IsKeptOf hs cause kept → (cause ≡ 0 → ⊥)
      → passed_as link cause kept ≡ Some dispatch
      → Dispatches s hs device t dispatch.link dispatch.cause dispatch.vl dispatch.cycle
      ↔ DispatchesSome s hs device t link cause
  passed_some dispatch found is some passed = grind (arith, passed_link, same_Some, passed_is)

  pub passed_none : AreFoundByNumber hs → IsKeptOf hs cause kept → (cause ≡ 0 → ⊥) → passed_as link cause kept ≡ None
      → DispatchesSome s hs device t link cause → ⊥
  passed_none found is some none (vl, cycle, does) =
      let never = sym none ∙ passed_is kept found is some does in absurd cc

-- ---- what is dispatched by the rows of a link: lists

-- what is in a list has a place in it
pub record IsAtPlace {X : Type 0} (xs : List X) (d x : X) : Type 0 where
  pub place : ℕ
  pub within : place < length xs
  pub is : slice_index_or xs place d ≡ x

pub placed : {X : Type 0} (xs : List X) (d x : X) → IsIn x xs → IsAtPlace xs d x
placed [] d x there = absurd there
placed (y ∷ ys) d x (inl e) = record { place = zero; within = omega arith; is = sym e }
placed (y ∷ ys) d x (inr there) =
    let rest = placed ys d x there in
    let within = rest.within in
    record { place = suc rest.place; within = omega (arith, within); is = rest.is }

-- ---- the rows of a link

pub have_periods : {network : Network} {link : LinkId} {rows : List LeavingRow} → IsInRange network
    → AreRowsOn network link rows → HavePeriods rows
have_periods {network} range are row there =
    let on = are.sound row there in
    subst (λ (r : LeavingRow). 1 ≤ r.period) (sym on.kept)
    (in_all (IsVlInRange network) network.vl on.entry.row.vl.0 on.entry.vl range.vls on.is.vl).period_least

module _ (s : Scenario) (hs : List Happening) (device : DeviceId) (t : ℕ) (dispatch : Dispatch)
    {rows : List LeavingRow} (are : AreRowsOn s.network dispatch.link rows) where
  -- what a device dispatches by one of them it dispatches
  some_dispatches : IsUp s hs device t → SomeDispatched s s.network hs device t dispatch rows
      → Dispatches s hs device t dispatch.link dispatch.cause dispatch.vl dispatch.cycle
  some_dispatches up some = grind arith

  -- and what it dispatches is by one of them
  dispatches_some : Dispatches s hs device t dispatch.link dispatch.cause dispatch.vl dispatch.cycle
      → SomeDispatched s s.network hs device t dispatch rows
  dispatches_some does = record {
    row = leaving_by does.entry;
    there = are.complete does.place does.entry does.row does.by;
    dispatched = record {
      suits = record { leaves = does.leaves; of_vl = does.of_vl; begun = does.occurs.begun; in_phase = does.occurs.in_phase };
      ready = record {
        reached = does.reached;
        at_hand = subst (λ vl. IsAtHand s.network hs device does.entry.vl.sender vl t dispatch.cause
            dispatch.cycle) does.of_vl does.at_hand;
      };
    };
  }

pub by_some : {s : Scenario} {network : Network} {hs : List Happening} {device : DeviceId} {t : ℕ}
    (dispatch : Dispatch) {rows : List LeavingRow} → s.network ≡ network → AreRowsOn network dispatch.link rows
    → IsUp s hs device t → SomeDispatched s network hs device t dispatch rows
    ↔ Dispatches s hs device t dispatch.link dispatch.cause dispatch.vl dispatch.cycle
by_some dispatch same = grind (arith, some_dispatches, dispatches_some)

-- ---- one row after another

abbrev pub no_row : LeavingRow
no_row = record { device = record { 0 = 0 }; vl = record { 0 = 0 }; offset = 0; period = 0; phase = 0; sender = record { 0 = 0 } }

-- it holds of none of the first elements
abbrev pub NoneOf : {X : Type 0} → (X → Type 0) → List X → X → ℕ → Type 0
NoneOf P xs d count = (i : ℕ) → i < count → i < length xs → P (slice_index_or xs i d) → ⊥

pub none_more : {X : Type 0} (P : X → Type 0) (xs : List X) (d : X) (n : ℕ) (answer : Bool) → NoneOf P xs d n
    → IsTrue answer ↔ P (slice_index_or xs n d) → answer ≡ false → NoneOf P xs d (n + 1)
none_more P xs d n answer none is no_answer i lt within holds = grind (arith, below_next, false≢true, slice_index_or)

pub none_in_all : {X : Type 0} (P : X → Type 0) (xs : List X) (d : X) (n : ℕ) → length xs ≤ n → NoneOf P xs d n → (x : X) → IsIn x xs → P x → ⊥
none_in_all P xs d n all none x there holds =
    let at = placed xs d x there in
    let within = at.within in
    none at.place (omega (arith, within, all)) within (subst P (sym at.is) holds)

-- ---- what a device dispatches as the sender of a virtual link: a crossing at a time

module _ (reading : ℕ → ℕ) (shown : Shown) (series : Series) where
  crossed_then : (t : ℕ) → NoneCrossed reading shown series (t - 1) (t + 1) → CrossesSome reading shown series t → ⊥
  crossed_then zero none (n, crosses) = grind (arith, ints)
  crossed_then (suc t) none (n, crosses) = none (suc t) n (omega arith) (omega arith) crosses

  pub crossed_at : (t : ℕ) (o : Option Crossed) → IsNextOrNone reading shown series (t - 1) t o
      → IsTrue (is_some o) ↔ CrossesSome reading shown series t
  crossed_at t None none = (λ told. absurd cc, λ some. absurd (crossed_then t none some))
  crossed_at t (Some crossed) next = grind arith

pub reached_some : {s : Scenario} (hs : List Happening) {device : DeviceId} (t : ℕ) {shown : Shown}
    {row : LeavingRow} {series : Series} → AreLeavings s.network row series → IsSteady s device
    → Shows s (earlier t hs) device shown → CrossesSome (s.reading device) shown series t
    ↔ ReachesSome s s.network hs device t row
reached_some {s} hs {device} t {shown} {row} {series} are steady shows = (to, from)
  where
    to : CrossesSome (s.reading device) shown series t → ReachesSome s s.network hs device t row
    to (n, crosses) = record {
      cycle = cycle_of row n;
      occurs = are.occur n;
      reached = come_reaches hs {t = t}
          {readings = record { now = s.reading device t; before = s.reading device (t - 1) }} (record { now = refl; before = refl }) steady shows
          (subst (λ v. CrossesAt (s.reading device) shown v t) (are.values n) crosses);
    }

    from : ReachesSome s s.network hs device t row → CrossesSome (s.reading device) shown series t
    from due =
        let k = are.all due.cycle due.occurs in
        let value : pos (leaving_value s.network row due.cycle) ≡ value_in series k.0 =
        ap (λ n. pos (leaving_value s.network row n)) k.1 ∙ sym (are.values k.0) in (
          k.0,
          subst (λ v. CrossesAt (s.reading device) shown v t) value
              (reaches_come
              {readings = record { now = s.reading device t; before = s.reading device (t - 1) }} (record { now = refl; before = refl }) shows due.reached),
        )

-- ---- the rows

pub fit_rows : {network : Network} {link : LinkId} {rows : List LeavingRow} → IsInRange network
    → AreRowsOn network link rows → AreRowsFit rows
fit_rows {network} range are row there =
    let on = are.sound row there in
    let entry = on.entry in
    let vl = in_all (IsVlInRange network) network.vl entry.row.vl.0 entry.vl range.vls on.is.vl in
    let its_row = in_all (IsRowInRange network) network.row on.place entry.row range.rows on.is.row in
    subst IsRowFit (sym on.kept) (record {
      period_least = vl.period_least;
      period_most = vl.period_most;
      phase = vl.phase;
      offset = amount_most its_row.offset;
    })

-- ---- what is sent is dispatched with no cause

sender_of : (network : Network) {hs : List Happening} {device : DeviceId} (entry : Entry) {t cycle : ℕ}
    → AreFoundByNumber hs → HasAtHand network hs device entry t 0 cycle → entry.vl.sender ≡ device
sender_of network entry found (inl (sends, none)) = sends
sender_of network {hs} {device} entry {t} {cycle} found (inr (switch, has)) =
    let none : numbered hs 0 ≡ Some has.taken =
    subst (λ n. numbered hs n ≡ Some has.taken) (sym has.number) (found has.taken (accepted_in has)) in
    absurd cc

pub some_sent : {s : Scenario} {hs : List Happening} {device : DeviceId} {t : ℕ} {link : LinkId}
    {rows : List LeavingRow} → AreRowsOn s.network link rows → IsUp s hs device t → AreFoundByNumber hs
    → SendsBySome s s.network hs device t rows ↔ SendsSome s hs device t link
some_sent {s} {hs} {device} {t} {link} {rows} are up found = (to, from)
  where
    to : SendsBySome s s.network hs device t rows → SendsSome s hs device t link
    to some =
        let on = are.sound some.row some.there in
        let entry = on.entry in
        let by : SendsBy s s.network hs device t (leaving_by entry) = subst (SendsBy s s.network hs device t) on.kept some.by in (
          entry.row.vl,
          by.due.cycle,
          record {
            place = on.place;
            entry = entry;
            row = on.is;
            by = on.on;
            of_vl = refl;
            leaves = by.leaves;
            occurs = record { begun = by.due.occurs.begun; in_phase = by.due.occurs.in_phase };
            up = up;
            reached = by.due.reached;
            at_hand = inl (by.sends, refl);
          },
        )

    from : SendsSome s hs device t link → SendsBySome s s.network hs device t rows
    from (vl, cycle, does) = record {
      row = leaving_by does.entry;
      there = are.complete does.place does.entry does.row does.by;
      by = record {
        leaves = does.leaves;
        sends = sender_of s.network does.entry found does.at_hand;
        due = record { cycle = cycle; occurs = record { begun = does.occurs.begun; in_phase = does.occurs.in_phase }; reached = does.reached };
      };
    }

-- ---- the rows of each link, as they are found one after another: no rows

abbrev pub items_at : List (Vec LeavingRow Global) → ℕ → List LeavingRow
items_at lists i = option_map_or (λ (v : Vec LeavingRow Global). v.items) (slice_get lists i) []

pub none_at : (i : ℕ) → items_at [] i ≡ []
none_at zero = refl
none_at (suc i) = refl

pub one_list : (lists : List (Vec LeavingRow Global)) (x : Vec LeavingRow Global) (i : ℕ) → x.items ≡ [] → items_at (lists ++ x ∷ []) i ≡ items_at lists i
one_list [] x zero none = none
one_list [] x (suc i) none = none_at i
one_list (y ∷ lists) x zero none = refl
one_list (y ∷ lists) x (suc i) none = one_list lists x i none

pub past_all : (network : Network) (exits : Exits) (link : LinkId) → length exits.links.items ≤ link.0 → AreExits network exits → AreRowsOn network link []
past_all network exits link past are =
    subst (λ rows. AreRowsOn network link (option_map_or (λ (v : Vec LeavingRow Global). v.items) rows []))
    (slice_get_past exits.links.items link.0 past) (are link)

-- ---- the first rows

-- these are those of the first rows of the network that put frames on the link
pub record AreFirstOn (network : Network) (count : ℕ) (link : LinkId) (rows : List LeavingRow) : Type 0 where
  pub sound : (row : LeavingRow) → IsIn row rows → IsRowOn network link row
  pub complete : (place : ℕ) (entry : Entry) → place < count → IsEntry network place entry → entry.row.link ≡ link → IsIn (leaving_by entry) rows

pub record AreFirstExits (network : Network) (count : ℕ) (exits : Exits) : Type 0 where
  pub links : length exits.links.items ≡ length network.link
  pub each : (link : LinkId) → AreFirstOn network count link (rows_on exits link)

pub first_none : {network : Network} {exits : Exits} → AreNoRows network exits → AreFirstExits network 0 exits
first_none are = grind arith

is_new : {network : Network} {n place : ℕ} {entry other : Entry} → IsEntry network n entry
    → IsEntry network place other → place ≡ n → other ≡ entry
is_new {network} {n} {entry} {other} at is same =
    one_entry network n other entry (subst (λ k. IsEntry network k other) same is) at

module _ {network : Network} {n : ℕ} {entry : Entry} (link : LinkId) (rows : List LeavingRow)
    (at : IsEntry network n entry) where
  one_more : entry.row.link ≡ link → AreFirstOn network n link rows
      → AreFirstOn network (n + 1) link (rows ++ leaving_by entry ∷ [])
  one_more on are = record {
    sound = λ row there. by_part row (in_parts row rows (leaving_by entry ∷ []) there);
    complete = λ place other lt is with_link. by_place place other is with_link (below_next place n lt);
  }
    where
      by_part : (row : LeavingRow) → IsIn row rows ⊎ IsIn row (leaving_by entry ∷ []) → IsRowOn network link row
      by_part row (inl there) = are.sound row there
      by_part row (inr (inl e)) = record { place = n; entry = entry; is = at; on = on; kept = e }
      by_part row (inr (inr never)) = absurd never

      by_place : (place : ℕ) (other : Entry) → IsEntry network place other → other.row.link ≡ link → (place < n)
          ⊎ (place ≡ n)
          → IsIn (leaving_by other) (rows ++ leaving_by entry ∷ [])
      by_place place other is with_link (inl before) =
          in_left (leaving_by other) rows (leaving_by entry ∷ []) (are.complete place other before is with_link)
      by_place place other is with_link (inr same) =
          in_right (leaving_by other) rows (leaving_by entry ∷ [])
          (inl (ap leaving_by (is_new {network = network} {n = n} {place = place} {entry = entry} {other = other} at is same)))

  other_more : (entry.row.link ≡ link → ⊥) → AreFirstOn network n link rows → AreFirstOn network (n + 1) link rows
  other_more off are = grind (arith, below_next, is_new)

pub more_exits : {network : Network} {n : ℕ} {entry : Entry} {old : Exits} (new : Exits)
    → AreFirstExits network n old → IsEntry network n entry
    → ((link : LinkId) → rows_on new link ≡ (if link.0 == entry.row.link.0 then rows_on old link ++ leaving_by entry
    ∷ [] else rows_on old link)) → length new.links.items ≡ length old.links.items → AreFirstExits network (n + 1) new
more_exits {network} {n} {entry} {old} new are at rows links = record {
  links = links ∙ are.links;
  each = λ link. by_test link (link.0 == entry.row.link.0) refl (rows link);
}
  where
    by_test : (link : LinkId) (b : Bool) → (link.0 == entry.row.link.0) ≡ b
        → rows_on new link ≡ (if b then rows_on old link ++ leaving_by entry ∷ [] else rows_on old link) → AreFirstOn network (n + 1) link (rows_on new link)
    by_test link true is row =
        let link_of : ℕ → LinkId = λ k. record { 0 = k } in
        subst (AreFirstOn network (n + 1) link) (sym row)
        (one_more {network = network} {n = n} {entry = entry} link
        (rows_on old link) at (sym (ap link_of (eqb-true link.0 entry.row.link.0 is))) (are.each link))
    by_test link false is row =
        subst (AreFirstOn network (n + 1) link) (sym row)
        (other_more {network = network} {n = n} {entry = entry} link (rows_on old link) at
        (λ e. false≢true (sym is ∙ eq-eqb link.0 entry.row.link.0 (sym (ap (λ (l : LinkId). l.0) e)))) (are.each link))

pub all_exits : {network : Network} {n : ℕ} {exits : Exits} → length network.row ≤ n → AreFirstExits network n exits
    → AreExits network exits
all_exits all are link = grind (arith, slice_get_within)

-- ---- the cycles in which the virtual link of a row occurs: the cycles

pub not_none : (phase : ℕ) → (phase == 0) ≡ false → 1 ≤ phase
not_none zero e = absurd (false≢true (sym e ∙ eq-eqb 0 0 refl))
not_none (suc n) e = omega arith

occurs_by : (period phase n : ℕ) (b : Bool) → (phase == 0) ≡ b → phase < period → (1 ≤ (if b then period else phase) + n * period)
    × (((if b then period else phase) + n * period) % period ≡ phase)
occurs_by period phase n true e lt =
    let none : phase ≡ 0 = eqb-true phase 0 e in
    let same : period + n * period ≡ suc n * period = omega arith in
    (omega (arith, lt), ap (λ (k : ℕ). k % period) same ∙ mul-mod_left (suc n) period ∙ sym none)
occurs_by period phase n false e lt =
    let some = not_none phase e in
    let same : phase + n * period ≡ n * period + phase = omega arith in
    (omega (arith, some), ap (λ (k : ℕ). k % period) same ∙ mod-mul-add n period phase lt)

-- the number of a cycle
all_by : (period phase cycle q : ℕ) (b : Bool) → (phase == 0) ≡ b → 1 ≤ cycle → q * period + phase ≡ cycle
    → (n : ℕ) × (cycle ≡ (if b then period else phase) + n * period)
all_by period phase cycle zero true e begun parts = let none : phase ≡ 0 = eqb-true phase 0 e in absurd (omega (arith, none, begun, parts))
all_by period phase cycle (suc n) true e begun parts = let none : phase ≡ 0 = eqb-true phase 0 e in (n, omega (arith, none, parts))
all_by period phase cycle q false e begun parts = (q, omega (arith, parts))

-- ---- the values

value_by : (first step period offset c f n : ℕ) (z : ℤ) → z ≡ pos (f * c + offset) → step ≡ period * c
    → z +ℤ pos (n * step) ≡ pos ((f + n * period) * c + offset)
value_by first step period offset c f n z at by = grind (arith, ints)

pub are_leavings : (network : Network) {row : LeavingRow} (series : Series) → IsRowFit row → row.phase < row.period
    → series.first ≡ pos (leaving_value network row (first_cycle row))
    → series.step ≡ row.period * amount network.cycle → AreLeavings network row series
are_leavings network {row} series fit lt first step = record {
  values = λ n. value_by 0 series.step row.period row.offset (amount network.cycle) (first_cycle row) n series.first first step;
  occur = λ n. let by = occurs_by row.period row.phase n (row.phase == 0) refl lt in record { begun = by.0; in_phase = by.1 };
  all = λ cycle occurs. all_by row.period row.phase cycle (cycle / row.period) (row.phase == 0) refl occurs.begun
      (ap (λ k. cycle / row.period * row.period + k) (sym occurs.in_phase) ∙ div-add-mod' cycle row.period);
}

-- ---- when a clock crosses one value

first_value : (series : Series) → value_in series 0 ≡ series.first
first_value series = omega (arith, ints)

-- a clock that never falls crosses a value once
once : {reading : ℕ → ℕ} (shown : Shown) {value : ℤ} (t u : ℕ) → ReadsOn reading → CrossesAt reading shown value t
    → CrossesAt reading shown value u → t < u → ⊥
once shown t u on at_t at_u lt =
    let up = on.never_falls t (u - 1) (omega (arith, lt)) in
    let reached = at_t.reached in
    let below = at_u.below in
    omega (arith, ints, up, reached, below)

pub same_time : {reading : ℕ → ℕ} (shown : Shown) {value : ℤ} (t u : ℕ) → ReadsOn reading
    → CrossesAt reading shown value t → CrossesAt reading shown value u → u ≡ t
same_time shown t u on at_t at_u = grind (arith, cases_lt, once)

-- where it crosses a value far behind the first, it crosses the first neither then nor later
not_first : {reading : ℕ → ℕ} (shown : Shown) (series : Series) (n t u : ℕ) → 1 ≤ n → ReadsOn reading
    → 2 ^ 62 ≤ series.step → t ≤ 2 ^ 60 → CrossesAt reading shown (value_in series n) t → t ≤ u
    → CrossesAt reading shown series.first u → ⊥
not_first {reading} shown series n t u some on far limit crosses le first =
    let bound = on.bound t limit in
    let reached = crosses.reached in
    let below = first.below in
    let steps : 1 * series.step ≤ n * series.step = mul-le-mul_right series.step some in
    elim (cases_lt t u) [
      | inl lt ↦ let up = on.never_falls t (u - 1) (omega (arith, lt)) in omega (arith, ints, up, reached, below, steps, far)
      | inr ge ↦
          let same : u ≡ t = omega (arith, le, ge) in
          let early = subst (λ k. CrossesAt reading shown series.first k) same first in
          let before = early.below in
          omega (arith, ints, bound, reached, before, steps, far)
    ]

pub crossed_alone : {reading : ℕ → ℕ} (shown : Shown) (series : Series) (after until : ℕ) (o : Option Crossed)
    → ReadsOn reading → 2 ^ 62 ≤ series.step → until ≤ 2 ^ 60 → IsNextOrNone reading shown series after until o
    → IsCrossingOrNone reading shown series.first after until (first_time o)
crossed_alone {reading} shown series after until None on far limit none = λ t later timely crosses.
    none t 0 later (omega (arith, timely)) (subst (λ v. CrossesAt reading shown v t) (sym (first_value series)) crosses)
crossed_alone {reading} shown series after until (Some crossed) on far limit next = by (crossed.number == 0) refl
  where
    by : (b : Bool) → (crossed.number == 0) ≡ b → IsCrossingOrNone reading shown series.first after until (if b then Some crossed.time else None)
    by true is =
        let first : crossed.number ≡ 0 = eqb-true crossed.number 0 is in
        let at = subst (λ v. CrossesAt reading shown v crossed.time) (first_value series)
        (subst (λ k. CrossesAt reading shown (value_in series k) crossed.time) first next.crosses) in
        record {
          later = next.later;
          timely = next.timely;
          crosses = at;
          only = λ other later timely crosses. same_time shown {value = series.first} crossed.time other on at crosses;
        }
    by false is = λ t later timely crosses.
        elim (cases_lt t crossed.time) [
          | inl lt ↦ next.none_before t 0 later lt (subst (λ v. CrossesAt reading shown v t) (sym (first_value series)) crosses)
          | inr le ↦
              let end = next.timely in
              not_first shown series crossed.number crossed.time t (not_none crossed.number is) on far
              (omega (arith, end, limit)) next.crosses le
              crosses
        ]
