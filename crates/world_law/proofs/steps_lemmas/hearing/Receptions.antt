-- What becomes of a frame that arrives: its one record, how its device judges it, and what it leaves to do.
use Rattle.std.proofs.lemmas.Bool.{or_right}
use Rattle.net_plan.specs.Ranges.{IsLinkInRange}
use Rattle.run_law.{proofs.{law.FirstBroken.off_control, runs.SameSteps.same_arrival}}
use Rattle.run_law.specs.{device.Standpoints.first_reason}
use Rattle.run_law.specs.{machines.{Answers.with_taken, Nodes.{last_taken_frame, local_at, standpoint_at}}}
use Rattle.run_law.specs.{timed.Receptions.ArrivesAs}
use Rattle.tte_units.proofs.general_lemmas.{Integers.ahead_yet}
use Rattle.tte_units.proofs.general_lemmas.{Lists.{in_all, last_if, last_kept, last_more, last_pushed}, Naturals.flips}
use Rattle.world_law.{specs.device.Takings.taken_by}
use Rattle.world_law.proofs.{devices.Working.{HasRested, worked_by}}
use Rattle.world_law.proofs.{putting.Near.{changed_aside, earlier_aside, left_aside, still_aside}}
use Rattle.world_law.proofs.{rows.AtHand.{frames_put, frames_with}}
use Rattle.world_law.proofs.steps_lemmas.{hearing.Called.After}
use Rattle.world_law.proofs.steps_lemmas.Words
use Words.{if◌then◌else◌, ◌&&◌, ◌++◌, ◌+◌, ◌<ℤ◌, ◌<◌, ◌==◌, ◌||◌, ◌∙◌, ◌∷◌, ◌≡◌, ◌≤ℤ◌, ◌≤◌, ◌⊎◌, Arrival, Bool}
use Words.{ClockTask, DeviceId, Down, Happening, HasDoneFrom, HasSentFrom, IsArrivedRecord, IsBefore, IsCaused}
use Words.{IsDeedOf, IsDue, IsFounded, IsIn, IsInRange, IsKept, IsLeft, IsMoving, IsNoTaking, IsOnWire, IsOne}
use Words.{IsOwnSource, IsPending, IsPutIn, IsReadyAt, IsSource, IsSteady, IsUndone, IsWaiting, Link, LinkId, List}
use Words.{Moment, Network, Node, None, NoneBefore, NoteBody, OnWire, Option, Pcf, PcfRefusal, Reason, Result, Scenario}
use Words.{Signal, Some, Standpoint, TakenFrame, Task, Units, Up, VlId, Way, [], amount, ap, append-nil, append_assoc}
use Words.{arith, arrival_at, arrival_body, arrival_of, arriving, bears_on, called, cases_Bool, cause_of, chain}
use Words.{changed_at, comes_before, control, correcting, dispatching, doing, due_of, emitting, eq-eqb, eqb-true, false}
use Words.{field, filter, filter-append, frames_taken, in_right, inl, inr, ints, is_broken, is_end, is_off}
use Words.{is_synchronised, is_taken_before, key, last_or, last_taken, last_taken_by, length, link_at, local_before}
use Words.{lt-ltb, members_in, moment_of, moves_no_other, nat_lt, not, numbered_prefix, numbered_within, octets_fault}
use Words.{octets_or_fault, one_shown, option_and_then, option_map, or_left, parted, place_of, pos, put_length, rank}
use Words.{reading_for, record_of, refl, second, sending, settled_as, standpoint, state_before, subst, sym, taken_cycle}
use Words.{taken_in, target_by, time_of, timed, timed_arrival, true, turned_aside, units_of, unsigned_abs, value_of, ℕ}
use Words.{ℤ}
use Rattle.run_law.specs.declared.judgement.Reason.TheVariants as reasons
use Rattle.run_law.specs.declared.judgement.Why.TheVariants as whys
use Rattle.run_law.specs.declared.note.NoteBody.TheVariants as kinds
use Rattle.run_law.specs.declared.steps.Arrival.TheVariants as arrivals

-- ---- what becomes of a frame that arrives: the one record of it: the body of the record

pub body_cause : (device : DeviceId) (link : LinkId) (cause : ℕ) (is : Arrival) → cause_of (arrival_body device link cause is) ≡ cause
body_cause device link cause (arrivals.Dropped reason) = refl
body_cause device link cause other = refl

pub body_key : (members : ℕ) (device : DeviceId) (link : LinkId) (cause : ℕ) (is : Arrival)
    → key members (arrival_body device link cause is) ≡ device.0 ∷ link.0 ∷ cause ∷ []
body_key members device link cause (arrivals.Dropped reason) = refl
body_key members device link cause other = refl

pub body_caused : {s : Scenario} {js : List Happening} (time : Units) {device : DeviceId} {link : LinkId} {cause : ℕ}
    (is : Arrival) → ArrivesAs s js device (amount time) link cause is
    → IsCaused s js time (arrival_body device link cause is)
body_caused time (arrivals.Dropped reason) a = inl a
body_caused time (arrivals.Waits frame point) a =
    record { frame = frame; point = point; way = Up; taken = inl a; shows = refl }
body_caused time (arrivals.Passes frame way) a =
    record { frame = frame; point = record { 0 = pos 0 }; way = way; taken = inr (inl a); shows = refl }
body_caused time (arrivals.PassesAndWaits frame way point) a =
    record { frame = frame; point = point; way = way; taken = inr (inr a); shows = refl }
body_caused time (arrivals.Accepted vl cycle) a = a
body_caused time (arrivals.Delivered vl cycle) a = a

pub body_own : {s : Scenario} {js : List Happening} {t : ℕ} (members : ℕ) {device : DeviceId} {link : LinkId}
    {cause : ℕ} (is : Arrival) → ArrivesAs s js device t link cause is
    → IsOwnSource s js t members (arrival_body device link cause is) (t ∷ 2 ∷ device.0 ∷ link.0 ∷ cause ∷ [])
body_own m (arrivals.Dropped reason) a = inl (refl, a)
body_own m other a = refl

-- where it stands
pub placed_at : {now : ℕ} (e : OnWire) (is : Arrival) (w : Happening) → time_of w ≡ now → w.note.body ≡ arrival_body
    e.device e.link e.cause is
    → place_of w ≡ now ∷ rank (arrival_body e.device e.link e.cause is) ∷ e.device.0 ∷ e.link.0 ∷ e.cause ∷ []
placed_at e is w at body = grind (arith, time_of, rank, key, members_in, arrival_body, body_key)

-- ---- it arrives so

pub few_cause : {s : Scenario} {hs : List Happening} {e : OnWire} → IsOnWire s hs e → e.cause ≤ length hs
few_cause {hs} {e} it = let lt = numbered_within hs e.cause it.putting it.there in omega arith

-- what becomes of it, given more records
pub arrives_now : {s : Scenario} {hs : List Happening} (zs : List Happening) {now : ℕ} {e : OnWire} {is : Arrival}
    → IsOnWire s hs e → e.at ≡ now → is ≡ arrival_of s (hs ++ zs) e.device now e.link e.cause e.signal
    → ArrivesAs s (hs ++ zs) e.device now e.link e.cause is
arrives_now {s} {hs} zs {e} it at so = record {
  putting = it.putting;
  there = numbered_prefix hs zs e.cause (few_cause it) ∙ it.there;
  signal = e.signal;
  arrives = rw at at it.arrives;
  becomes = so;
}

target_in : {network : Network} (way : Way) {l : Link} {device : DeviceId} → IsLinkInRange network l
    → target_by way l ≡ device → device.0 < length network.device
target_in {network} Up range e = rw e at range.parent
target_in {network} Down range e = rw e at range.child

pub receiver_in : (network : Network) (way : Way) (link : LinkId) (o : Option Link) (device : DeviceId) → link_at network link ≡ o → IsInRange network
    → Rattle.std.specs.Prelude.option_map (target_by way) o ≡ Some device → device.0 < length network.device
receiver_in network way link None device is range e = absurd cc
receiver_in network way link (Some l) device is range e =
    target_in way {device = device} (in_all (IsLinkInRange network) network.link link.0 l range.links is) cc

pub device_there : (s : Scenario) (hs : List Happening) (e : OnWire) → IsInRange s.network → IsOnWire s hs e → e.device.0 < length s.network.device
device_there s hs e range it = receiver_in s.network it.arrives.way e.link (link_at s.network e.link) e.device refl range it.arrives.receiver

-- ---- what comes from its arrival is an outcome of it

-- the numbers of a place
record IsSameWire (e : OnWire) (now t : ℕ) (device : DeviceId) (link : LinkId) (cause : ℕ) : Type 0 where
  time : now ≡ t
  by : e.device ≡ device
  on : e.link ≡ link
  from : e.cause ≡ cause

same_wire : (e : OnWire) {now t : ℕ} (device : DeviceId) (link : LinkId) {cause : ℕ}
    → now ∷ 2 ∷ e.device.0 ∷ e.link.0 ∷ e.cause ∷ [] ≡ t ∷ 2 ∷ device.0 ∷ link.0 ∷ cause ∷ [] → IsSameWire e now t device link cause
same_wire e device link same = grind arith

moved : {s : Scenario} {js : List Happening} {e : OnWire} {now t : ℕ} {device : DeviceId} {link : LinkId} {cause : ℕ}
    {is : Arrival} → IsSameWire e now t device link cause → ArrivesAs s js device t link cause is
    → ArrivesAs s js e.device now e.link e.cause is
moved p d = grind arith

abbrev ranked : ℕ → List ℕ → List ℕ
ranked r (a ∷ b ∷ more) = a ∷ r ∷ more
ranked r other = other

-- a record comes from the arrival as this
pub record ComesAs (s : Scenario) (js : List Happening) (now : ℕ) (e : OnWire) (t members : ℕ) (body : NoteBody) : Type 0 where
  pub is : Arrival
  pub so : ArrivesAs s js e.device now e.link e.cause is
  pub place : now ∷ rank (arrival_body e.device e.link e.cause is) ∷ e.device.0 ∷ e.link.0 ∷ e.cause ∷ [] ≡ t ∷ rank body ∷ key members body

module _ (s : Scenario) (js : List Happening) {now : ℕ} (e : OnWire) {t : ℕ} (members : ℕ) (device : DeviceId)
    (link : LinkId) {cause : ℕ} where
  comes : (body : NoteBody) {is : Arrival} → now ∷ 2 ∷ e.device.0 ∷ e.link.0 ∷ e.cause ∷ [] ≡ t ∷ 2 ∷ device.0
      ∷ link.0 ∷ cause ∷ [] → ArrivesAs s js device t link cause is
      → rank (arrival_body e.device e.link e.cause is) ≡ rank body
      → device.0 ∷ link.0 ∷ cause ∷ [] ≡ key members body → ComesAs s js now e t members body
  comes body {is} at a ranks keys = record {
    is = is;
    so = moved (same_wire e device link at) a;
    place = rw ranks (ap (ranked (rank body)) at ∙ (rw keys));
  }

  arrived_as : {clock : ℕ} → now ∷ 2 ∷ e.device.0 ∷ e.link.0 ∷ e.cause ∷ [] ≡ t ∷ 2 ∷ device.0 ∷ link.0 ∷ cause ∷ []
      → IsArrivedRecord s js device t link cause clock → ComesAs s js now e t members
      (kinds.Arrived device link cause clock)
  arrived_as at a = elim a.taken [
    | inl w ↦ comes _ at w refl refl
    | inr (inl w) ↦ comes _ at w refl refl
    | inr (inr w) ↦ comes _ at w refl refl
  ]

-- each record that is caused, and whose own source is the arrival, comes from it so
pub comes_as : (s : Scenario) (js : List Happening) (now : ℕ) (e : OnWire) (t members : ℕ) (body : NoteBody)
    → IsOwnSource s js t members body (now ∷ 2 ∷ e.device.0 ∷ e.link.0 ∷ e.cause ∷ [])
    → (time : Units) → amount time ≡ t → IsCaused s js time body → ComesAs s js now e t members body
comes_as s js now e t m (kinds.Arrived device link cause clock) o time is c =
    arrived_as s js e m device link o
    (rw is at c)
comes_as s js now e t m (kinds.Accepted device link cause vl cycle) o time is c =
    comes s js e m device link _ o (rw is at c) refl refl
comes_as s js now e t m (kinds.Delivered device link cause vl cycle) o time is c =
    comes s js e m device link _ o (rw is at c) refl refl
comes_as s js now e t m (kinds.Dropped device link cause reason) (inl o) time is c =
    comes s js e m device link _ o.0 o.1 refl refl
comes_as s js now e t m (kinds.Dropped device link cause reason) (inr o) time is c = absurd (grind arith)
comes_as s js now e t m (kinds.State device state cause whys.SyncClique) o time is c = absurd (grind arith)
comes_as s js now e t m other o time is c = absurd (grind arith)

-- what is judged so by the same records is at the same place
pub outcome_at : {s : Scenario} {hs : List Happening} (zs : List Happening) {now : ℕ} {e : OnWire} {is : Arrival}
    → IsOnWire s hs e → e.at ≡ now → {t members : ℕ} {body : NoteBody}
    → is ≡ arrival_of s (hs ++ zs) e.device now e.link e.cause e.signal → ComesAs s (hs ++ zs) now e t members body
    → now ∷ rank (arrival_body e.device e.link e.cause is) ∷ e.device.0 ∷ e.link.0 ∷ e.cause ∷ [] ≡ t ∷ rank body
    ∷ key members body
outcome_at {s} {hs} zs {now} {e} {is} it at so c =
    rw (same_arrival (arrives_now zs it at so) c.so) c.place

-- ---- whatever stands at the place of an outcome comes from the arrival, or from a source behind it

abbrev IsOther : ℕ → Type 0
IsOther k = (2 ≡ k → ⊥) × (11 ≡ k → ⊥) × (12 ≡ k → ⊥) × (13 ≡ k → ⊥)

other_kind : (device : DeviceId) (link : LinkId) (cause : ℕ) (is : Arrival) (k : ℕ) → rank (arrival_body device link cause is) ≡ k → IsOther k → ⊥
other_kind device link cause (arrivals.Dropped reason) k r o = o.3 r
other_kind device link cause (arrivals.Accepted vl cycle) k r o = o.1 r
other_kind device link cause (arrivals.Delivered vl cycle) k r o = o.2 r
other_kind device link cause other k r o = o.0 r

behind_here : {now t r : ℕ} (more : List ℕ) {ws w : List ℕ} → now ≡ t → 2 < r → w ≡ t ∷ r ∷ ws → IsBefore
    (now ∷ 2 ∷ more) w
behind_here more e lt is = rw is (inr (e, inl lt))

abbrev first_of : List ℕ → ℕ
first_of [] = 0
first_of (a ∷ more) = a

pub own_there : (s : Scenario) (js : List Happening) {now : ℕ} (e : OnWire) (is : Arrival) {t : ℕ} (members : ℕ)
    (body : NoteBody) (w : List ℕ)
    → now ∷ rank (arrival_body e.device e.link e.cause is) ∷ e.device.0 ∷ e.link.0 ∷ e.cause ∷ [] ≡ t ∷ rank body ∷ key members body
    → IsOwnSource s js t members body w → (w ≡ now ∷ 2 ∷ e.device.0 ∷ e.link.0 ∷ e.cause ∷ []) ⊎ IsBefore (now ∷ 2 ∷ e.device.0 ∷ e.link.0 ∷ e.cause ∷ []) w
own_there s js e is m (kinds.Dropped device link cause reason) w place (inl o) = inl (o.0 ∙ sym (ap (ranked 2) place))
own_there s js {now} e is {t} m (kinds.Dropped device link cause reason) w place (inr (inl o)) =
    inr (behind_here _ (ap first_of place) (omega arith) o.2)
own_there s js {now} e is {t} m (kinds.Dropped device link cause reason) w place (inr (inr o)) =
    inr (behind_here _ (ap first_of place) (omega arith) o.0)
own_there s js e is m (kinds.Arrived device link cause clock) w place o = inl (o ∙ sym (ap (ranked 2) place))
own_there s js e is m (kinds.Accepted device link cause vl cycle) w place o = inl (o ∙ sym (ap (ranked 2) place))
own_there s js e is m (kinds.Delivered device link cause vl cycle) w place o = inl (o ∙ sym (ap (ranked 2) place))
own_there s js e is m other w place o = grind (arith, other_kind, second)

-- ---- the record of an arrival is put in among those to come: no record to come is from the place of the arrival on

-- the own source of what is to come is before the arrival
never_from : {s : Scenario} {hs coming : List Happening} {now : ℕ} {more : List ℕ}
    → IsMoving s hs coming now 2 more → (z : Happening) → IsIn z coming
    → ((js : List Happening) (w : List ℕ) → IsOwnSource s js (time_of z) (members_in z) z.note.body w
    → (w ≡ now ∷ 2 ∷ more) ⊎ IsBefore (now ∷ 2 ∷ more) w) → ⊥
never_from m z i from = grind (arith, parted, second, chain)

-- ---- how it is judged

-- the least rank of what becomes of a signal: what a device takes of timed frames has one rank
abbrev pub least_rank : Network → DeviceId → Signal → ℕ
least_rank network device (control frame) = 2
least_rank network device (timed octets) = if is_end network device then 12 else 11

-- this becomes of the frame, given any of those to come that leave none before its place
abbrev pub IsHeardAs : Scenario → List Happening → List Happening → ℕ → OnWire → Arrival → Type 0
IsHeardAs s hs coming now e is =
    (f rest : List Happening) (r : ℕ) → coming ≡ f ++ rest → NoneBefore place_of rest (now ∷ r ∷ e.device.0 ∷ e.link.0 ∷ e.cause ∷ [])
    → least_rank s.network e.device e.signal ≤ r → is ≡ arrival_of s (hs ++ f) e.device now e.link e.cause e.signal

-- ---- what a step that puts in its record starts from

-- the record is due at its place among those to come, and says what becomes of the frame by any of those before its place
pub record IsReceiving (s : Scenario) (hs front back : List Happening) (now : ℕ) (e : OnWire) (is : Arrival)
    (w : Happening) : Type 0 where
  pub one : IsOne s hs front back now 2 (e.device.0 ∷ e.link.0 ∷ e.cause ∷ []) w
  pub body : w.note.body ≡ arrival_body e.device e.link e.cause is
  pub wire : IsOnWire s hs e
  pub arrives : e.at ≡ now
  pub so : IsHeardAs s hs (front ++ back) now e is

-- the record that is put in, and what is settled then
pub record IsReceived (s : Scenario) (hs coming : List Happening) (now : ℕ) (e : OnWire) (is : Arrival)
    (settled : List Happening) : Type 0 where
  pub front : List Happening
  pub back : List Happening
  pub w : Happening
  pub whole : coming ≡ front ++ back
  pub it : IsReceiving s hs front back now e is w
  pub shows : settled ≡ front ++ w ∷ back
  pub long : length (front ++ w ∷ back) ≡ length coming + 1

pub received : {s : Scenario} {hs coming : List Happening} {now : ℕ} {e : OnWire}
    (is : Arrival) {settled : List Happening} → IsMoving s hs coming now 2
    (e.device.0 ∷ e.link.0 ∷ e.cause ∷ []) → IsFounded place_of (IsDue s) hs → IsOnWire s hs e → e.at ≡ now → IsHeardAs s hs coming now e is →
    ((js : List Happening)
    → least_rank s.network e.device e.signal ≤ rank (arrival_body e.device e.link e.cause (arrival_of s js e.device
    now e.link e.cause e.signal)))
    → IsPutIn (settled_as s.network hs now (arrival_body e.device e.link e.cause is)) coming settled
    → IsReceived s hs coming now e is settled
received {s} {hs} {coming} {now} {e} is m founded it at so least_is put =
    let more = e.device.0 ∷ e.link.0 ∷ e.cause ∷ [] in
    let body = arrival_body e.device e.link e.cause is in
    let shown = one_shown s.network hs now body (rw (body_cause e.device e.link e.cause is) (few_cause it)) put in
    let front = shown.front in
    let back = shown.back in
    let w = record_of s.network hs front now body in
    let moving : IsMoving s hs (front ++ back) now 2 more =
    rw shown.parts at m in
    let key_is : place_of w ≡ now ∷ rank body ∷ more = rw (body_key (members_in w) e.device e.link e.cause is) in
    let all =
    so coming [] (least_rank s.network e.device e.signal) (sym (append-nil coming)) (λ y none_. absurd none_) (omega arith) in
    let ranked : least_rank s.network e.device e.signal ≤ rank body =
    rw all (least_is (hs ++ coming)) in
    let judged =
    so front back (rank body) shown.parts (subst (λ q. NoneBefore place_of back q) key_is shown.none) ranked in
    let arrives = arrives_now front it at judged in
    record {
      front = front;
      back = back;
      w = w;
      whole = shown.parts;
      it = record {
        one = record {
          moving = moving;
          given = founded;
          at = refl;
          due = due_of s hs front now body (body_caused (units_of now) is arrives);
          before = shown.before;
          none = shown.none;
          fresh = λ y i same.
              never_from moving y (in_right y front back i)
              (λ js u own. own_there s js e is (members_in y) y.note.body u (sym key_is ∙ same) own);
          mine = body_own (members_in w) is arrives;
          here =
              IsSource.arriving now e.device e.link e.cause
              (record {
                putting = arrives.putting;
                there = arrives.there;
                signal = arrives.signal;
                arrives =
                    arrives.arrives;
              });
          aside = λ x i device same hears. let six : 2 ≡ 6 = ap second same in omega arith;
        };
        body = refl;
        wire = it;
        arrives = at;
        so = λ f rest rank_ whole none_ high. so f rest rank_ (shown.parts ∙ whole) none_ high;
      };
      shows = shown.shows;
      long = put_length front back w ∙ (rw (sym shown.parts));
    }

-- ---- a device that took a frame has the tasks that it had, and such as are for later readings

-- the device that took a frame by the call
abbrev pub took : Moment → VlId → ℕ → Node → Node
took moment vl cycle node = called moment arriving (with_taken node moment vl cycle)

-- the frame that it took last of a virtual link is that one, or the one before
last_took : (node : Node) (moment : Moment) (vl own : VlId) (cycle : ℕ) {b : Bool} → (vl.0 == own.0) ≡ b
    → last_taken_frame (took moment vl cycle node) own
    ≡ (if b then Some (record { vl = vl; cycle = cycle; at = local_at node moment }) else last_taken_frame node own)
last_took node moment vl own cycle e = grind (arith, last_or, filter-append, filter, last_pushed, last_kept)

-- a deed of it was one before, or is for a later reading
was_deed : (network : Network) (device : DeviceId) (node : Node) (moment : Moment) (vl : VlId) (cycle : ℕ) (deed : ClockTask)
    → IsDeedOf network device (took moment vl cycle node) deed → IsDeedOf network device node deed ⊎ (moment.reading.0 <ℤ reading_for network node (doing deed))
was_deed network device node moment vl cycle (sending number) own = inl own
was_deed network device node moment vl cycle (correcting number) own = inl own
was_deed network device node moment vl cycle (dispatching row number) own =
    elim own.1.has [
      | inl sender ↦ inl (own.0, record { entry = own.1.entry; is = own.1.is; leaves = own.1.leaves; occurs = own.1.occurs; has = inl sender })
      | inr taken ↦ elim (cases_Bool (vl.0 == own.1.entry.row.vl.0)) [
        | inl of_it ↦
            let last = rw (last_took node moment vl own.1.entry.row.vl cycle of_it) at taken.1.last in
            inr (ahead_yet moment.reading.0 node.standing.adjustment.0 (local_at node moment) (value_of network (dispatching row number)) refl last.1)
        | inr other ↦
            let last = rw (last_took node moment vl own.1.entry.row.vl cycle other) at taken.1.last in
            inl (
              own.0,
              record {
                entry = own.1.entry;
                is = own.1.is;
                leaves = own.1.leaves;
                occurs = own.1.occurs;
                has = inr (taken.0, record { last = last });
              },
            )
      ]
    ]

module _ (network : Network) (device : DeviceId) (node : Node) (moment : Moment) (vl : VlId) (cycle : ℕ) where
  was_undone : {deed : ClockTask} → IsUndone network device (took moment vl cycle node) deed
      → IsUndone network device node deed ⊎ (moment.reading.0 <ℤ reading_for network node (doing deed))
  was_undone u = grind (arith, was_deed)

  was_waiting : {sent : _} → IsWaiting network device (took moment vl cycle node) sent
      → IsWaiting network device node sent
  was_waiting w =
      record { cm = w.cm; clusters = w.clusters; are = w.are; cluster = w.cluster; there = w.there; is = w.is; not_yet = w.not_yet }

  was_pending : (task : Task) → IsPending network device (took moment vl cycle node) task
      → IsPending network device node task ⊎ (moment.reading.0 <ℤ reading_for network node task)
  was_pending (emitting sent) p = inl (p.0, was_waiting p.1)
  was_pending (doing deed) p =
      elim (was_undone p.1) [ inl old ↦ inl (p.0, old) | inr later ↦ inr later ]

same_reading : (network : Network) (node : Node) (moment : Moment) (vl : VlId) (cycle : ℕ) (task : Task)
    → reading_for network (took moment vl cycle node) task ≡ reading_for network node task
same_reading network node moment vl cycle (emitting sent) = refl
same_reading network node moment vl cycle (doing deed) = refl

module _ (s : Scenario) (now : ℕ) {device : DeviceId} {node : Node} (vl : VlId) (cycle : ℕ) where
  -- it is ready at the instant
  pub ready_took : IsSteady (s.reading device) (amount s.network.precision) → pos 0 ≤ℤ s.network.precision.0
      → IsReadyAt (s.reading device) s.network device node now
      → IsReadyAt (s.reading device) s.network device (took (moment_of s device now) vl cycle node) now
  ready_took steady precise ready =
      let m = moment_of s device now in
      record {
        time = omega (arith, ints);
        begun = omega (arith, ints);
        last = refl;
        undone = λ task p x lt.
            rw (same_reading s.network node m vl cycle task)
            (elim (was_pending s.network device node m vl cycle task p) [
              | inl old ↦ ready.undone task old x lt
              | inr later ↦ let fell = steady.never_falls x now (omega arith) in omega (arith, ints)
            ]);
        in_time = λ task p.
            rw (same_reading s.network node m vl cycle task)
            (elim (was_pending s.network device node m vl cycle task p) [
              | inl old ↦ ready.in_time task old
              | inr later ↦ omega (arith, ints)
            ]);
      }

  -- it has done what it had
  pub done_took : {changed high : ℕ} → IsSteady (s.reading device) (amount s.network.precision)
      → HasDoneFrom s.network (s.reading device) device node changed now high
      → HasDoneFrom s.network (s.reading device) device (took (moment_of s device now) vl cycle node) changed now high
  done_took steady has = record {
    undone = λ deed u x from lt.
        elim (was_undone s.network device node (moment_of s device now) vl cycle u) [
          | inl old ↦ has.undone deed old x from lt
          | inr later ↦ let fell = steady.never_falls x now (omega arith) in omega (arith, ints)
        ];
    done = has.done;
  }

  -- and sent
  pub sent_took : {low high : ℕ} → HasSentFrom s device node low high
      → HasSentFrom s device (took (moment_of s device now) vl cycle node) low high
  sent_took has = record {
    unsent = λ sent w x lt. has.unsent sent (was_waiting s.network device node (moment_of s device now) vl cycle w) x
        lt;
    sent = has.sent;
  }

-- the records leave it so
pub left_took : {s : Scenario} {hs : List Happening} {device : DeviceId} {t : ℕ} {node : Node} (moment : Moment)
    (vl : VlId) (cycle : ℕ) → IsLeft s hs device t node → IsLeft s hs device t (took moment vl cycle node)
left_took moment vl cycle left = grind arith

-- ---- a device judges a frame that arrives as the records say: where the device stands

-- the moment is that of the device at the time
pub record IsMomentOf (s : Scenario) (device : DeviceId) (t : ℕ) (moment : Moment) : Type 0 where
  pub time : moment.time.0 ≡ pos t
  pub reading : moment.reading.0 ≡ pos (s.reading device t)

amount_is : (u : Units) (n : ℕ) → u.0 ≡ pos n → amount u ≡ n
amount_is u n e = ap unsigned_abs e

module _ {s : Scenario} {hs : List Happening} {device : DeviceId} {t : ℕ} {node : Node} (moment : Moment) where
  -- the node stands where the records say
  pub same_standpoint : IsLeft s hs device t node → IsMomentOf s device t moment
      → standpoint_at node moment ≡ standpoint s hs device t
  same_standpoint left at = grind (arith, not, is_off, amount, state_before, is_broken, amount_is)

  -- what becomes of a control frame is what the records say
  pub control_judged : (link : LinkId) (cause : ℕ) (frame : Result Pcf PcfRefusal) → IsLeft s hs device t node
      → IsMomentOf s device t moment → arrival_at s.network device node moment link (control frame)
      ≡ arrival_of s hs device t link cause (control frame)
  control_judged link cause frame left at =
      rw (same_standpoint left at)

-- ---- a device that takes no part drops all

first_off : (b : Bool) (more : List (Bool × Reason)) → b ≡ false → first_reason ((not b, reasons.Off) ∷ more) ≡ Some reasons.Off
first_off true more e = absurd cc
first_off false more e = refl

timed_off : (network : Network) (device : DeviceId) (link : LinkId) (p : Standpoint) (octets : List ℕ) (last : VlId → Option ℕ) → p.takes_part ≡ false
    → timed_arrival network device link p octets last ≡ arrivals.Dropped reasons.Off
timed_off network device link p octets last e = grind (arith, octets_or_fault, octets_fault, first_off, nat_lt, field, not, is_synchronised)

no_part : (a b : Bool) → b ≡ true → (a && not b) ≡ false
no_part true b e = ap not e
no_part false b e = refl

-- the records say that a broken device drops it
pub broken_drops : (s : Scenario) (hs : List Happening) (device : DeviceId) (t : ℕ) (link : LinkId) (cause : ℕ) (signal : Signal) → is_broken s device t ≡ true
    → arrival_of s hs device t link cause signal ≡ arrivals.Dropped reasons.Off
broken_drops s hs device t link cause (control frame) e =
    off_control s.network device link (standpoint s hs device t) frame (no_part (not (is_off (state_before s hs device t))) (is_broken s device t) e)
broken_drops s hs device t link cause (timed octets) e =
    search (arith, timed_off, no_part, is_broken)

-- and so does a node that is
pub out_drops : (network : Network) (device : DeviceId) (node : Node) (moment : Moment) (link : LinkId) (signal : Signal) → node.broken ≡ true
    → arrival_at network device node moment link signal ≡ arrivals.Dropped reasons.Off
out_drops network device node moment link (control frame) e =
    off_control network device link (standpoint_at node moment) frame (no_part (not (is_off node.standing.state)) node.broken e)
out_drops network device node moment link (timed octets) e =
    timed_off network device link (standpoint_at node moment) octets (last_taken_by node) (no_part (not (is_off node.standing.state)) node.broken e)

-- ---- a control frame leaves the node as it is: what a device took last, by its node and by the records

-- did the device take a frame of the virtual link by the record?
abbrev pub is_taking : DeviceId → VlId → NoteBody → Bool
is_taking device vl (kinds.Accepted other by from of_vl cycle) = device.0 == other.0 && vl.0 == of_vl.0
is_taking device vl (kinds.Delivered other by from of_vl cycle) = device.0 == other.0 && vl.0 == of_vl.0
is_taking device vl other = false

-- ---- by its node

abbrev cycle_of : Option TakenFrame → Option ℕ
cycle_of o = option_map (λ taking. taking.cycle) o

abbrev cycle_by : Option Happening → Option ℕ
cycle_by o = option_and_then (λ h. taken_cycle h.note.body) o

-- one record by which it takes one, or another device does
taking_step : (device other : DeviceId) (vl of_vl : VlId) {cycle : ℕ} (at : ℤ) (o : Option TakenFrame)
    (p : Option Happening) (h : Happening)
    → taken_cycle h.note.body ≡ Some cycle → cycle_of o ≡ cycle_by p → (b c : Bool) → (of_vl.0 == vl.0) ≡ c
    → cycle_of (last_or o (filter (λ taking. taking.vl.0 == vl.0) (if b then record { vl = of_vl; cycle = cycle; at = at } ∷ [] else [])))
    ≡ cycle_by (if (b && c) then Some h else p)
taking_step device other vl of_vl at o p h is same true true e =
    rw e (sym is)
taking_step device other vl of_vl at o p h is same true false e =
    rw e same
taking_step device other vl of_vl at o p h is same false c e = same

last_step : (device : DeviceId) (vl : VlId) (at : ℤ) (o : Option TakenFrame) (p : Option Happening) (h : Happening) (body : NoteBody) → h.note.body ≡ body
    → cycle_of o ≡ cycle_by p
    → cycle_of (last_or o (filter (λ taking. taking.vl.0 == vl.0) (taken_in device at body))) ≡ cycle_by (if is_taking device vl body then Some h else p)
last_step device vl at o p h (kinds.Accepted other by from of_vl cycle) is same =
    taking_step device other vl of_vl at o p h (ap taken_cycle is) same (device.0 == other.0) (vl.0 == of_vl.0)
    (flips of_vl.0 vl.0)
last_step device vl at o p h (kinds.Delivered other by from of_vl cycle) is same =
    taking_step device other vl of_vl at o p h (ap taken_cycle is) same (device.0 == other.0) (vl.0 == of_vl.0)
    (flips of_vl.0 vl.0)
last_step device vl at o p h other is same = same

last_by : (device : DeviceId) (vl : VlId) (at : ℕ → ℤ) (hs : List Happening) (o : Option TakenFrame) (p : Option Happening) → cycle_of o ≡ cycle_by p
    → cycle_of (last_or o (filter (λ taking. taking.vl.0 == vl.0) (taken_by device at hs)))
    ≡ cycle_by (last_or p (filter (λ h. is_taking device vl h.note.body) hs))
last_by device vl at [] o p same = same
last_by device vl at (h ∷ hs) o p same =
    let q = λ (taking : TakenFrame). taking.vl.0 == vl.0 in
    let here = taken_in device (at (time_of h)) h.note.body in
    let more = taken_by device at hs in
    let step = last_step device vl (at (time_of h)) o p h h.note.body refl same in
    ap cycle_of (ap (last_or o) (filter-append q here more) ∙ last_more o (filter q here) (filter q more))
    ∙ last_by device vl at hs (last_or o (filter q here)) (if is_taking device vl h.note.body then Some h else p) step
    ∙ ap cycle_by (sym (last_if (is_taking device vl h.note.body) p h (filter (λ g. is_taking device vl g.note.body) hs)))

filter_so : (p q : Happening → Bool) (hs : List Happening) → ((h : Happening) → IsIn h hs → p h ≡ q h) → filter p hs ≡ filter q hs
filter_so p q [] same = refl
filter_so p q (h ∷ hs) same =
    rw (same h (inl refl))
    (rw (filter_so p q hs (λ g i. same g (inr i))))

-- where each taking comes before the arrival, the node's last is that of the records
pub taken_last : (s : Scenario) (hs : List Happening) (device : DeviceId) (t : ℕ) (link : LinkId) (cause : ℕ) (node : Node)
    → node.taken ≡ frames_taken s hs device
    → ((vl : VlId) (h : Happening) → IsIn h hs → is_taking device vl h.note.body ≡ is_taken_before device vl t link cause (time_of h) h.note.body)
    → (vl : VlId) → last_taken_by node vl ≡ last_taken hs device t link cause vl
taken_last s hs device t link cause node is all vl =
    rw is
    (last_by device vl (Rattle.run_law.specs.device.LocalClocks.local_before s hs device) hs None None refl
    ∙ (rw (filter_so (λ h. is_taking device vl h.note.body) (λ h. is_taken_before device vl t link cause (time_of h)
    h.note.body) hs (all vl))))

-- ---- by which records

-- where it takes one by a record, that is of it
abbrev pub IsBefore2 : LinkId → ℕ → LinkId → ℕ → Type 0
IsBefore2 by from link cause = (by.0 < link.0) ⊎ ((by.0 ≡ link.0) × (from < cause))

before_so : (by : LinkId) (from : ℕ) (link : LinkId) (cause : ℕ) → IsBefore2 by from link cause → comes_before by from link cause ≡ true
before_so by from link cause (inl lt) = rw (lt-ltb by.0 link.0 lt)
before_so by from link cause (inr e) = grind (arith, nat_lt, eq-eqb, lt-ltb)

three : (a b c : Bool) → (a ≡ true → c ≡ true) → (a && b) ≡ (a && b && c)
three true true c so = sym (so refl)
three true false c so = refl
three false b c so = refl

-- it is earlier, or of the time and by an arrival before this one
abbrev pub IsSooner : DeviceId → ℕ → LinkId → ℕ → Happening → NoteBody → Type 0
IsSooner device t link cause h (kinds.Accepted other by from of_vl cycle) = device ≡ other → (time_of h < t) ⊎ ((time_of h ≡ t) × IsBefore2 by from link cause)
IsSooner device t link cause h (kinds.Delivered other by from of_vl cycle) = device ≡ other → (time_of h < t) ⊎ ((time_of h ≡ t) × IsBefore2 by from link cause)
IsSooner device t link cause h other = Unit {0}

sooner_test : (device other : DeviceId) (t : ℕ) (link : LinkId) (cause : ℕ) (at : ℕ) (by : LinkId) (from : ℕ)
    → (device ≡ other → (at < t) ⊎ ((at ≡ t) × IsBefore2 by from link cause)) → (device.0 == other.0) ≡ true
    → (nat_lt at t || (at == t && comes_before by from link cause)) ≡ true
sooner_test device other t link cause at by from so e = grind (arith, eqb-true, or_left, nat_lt, comes_before, lt-ltb, or_right, eq-eqb, before_so)

pub taking_is : (device : DeviceId) (vl : VlId) (t : ℕ) (link : LinkId) (cause : ℕ) (h : Happening) (body : NoteBody) → IsSooner device t link cause h body
    → is_taking device vl body ≡ is_taken_before device vl t link cause (time_of h) body
taking_is device vl t link cause h (kinds.Accepted other by from of_vl cycle) so =
    search (arith, three, comes_before, sooner_test)
taking_is device vl t link cause h (kinds.Delivered other by from of_vl cycle) so =
    search (arith, three, comes_before, sooner_test)
taking_is device vl t link cause h other so = refl

-- A record that bears on no device is put in among those of its instant: what each device took, and the device that took a frame by it.

-- ---- what the device took by the others

-- a device that takes none by the record, which is not earlier than any other, has taken the same
pub frames_placed : (s : Scenario) (hs front back : List Happening) (w : Happening) (device : DeviceId)
    → IsNoTaking device w.note.body → ((h : Happening) → IsIn h (hs ++ (front ++ back)) → time_of h ≤ time_of w)
    → frames_taken s (hs ++ (front ++ back)) device ≡ frames_taken s (hs ++ (front ++ w ∷ back)) device
frames_placed s hs front back w device none sooner =
    rw (sym (append_assoc hs front back))
    (sym (frames_put s (hs ++ front) back w device none
    (λ h i. sooner h (rw (append_assoc hs front back) at i)))
    ∙ (rw (append_assoc hs front (w ∷ back))))

-- the record, as it is put in, bears on the device by nothing, and is not earlier than any other
pub record IsQuiet (hs front back : List Happening) (w : Happening) (device : DeviceId) : Type 0 where
  pub bears : bears_on device w.note.body ≡ false
  pub sooner : (h : Happening) → IsIn h (hs ++ (front ++ back)) → time_of h ≤ time_of w

-- ---- the device that took the frame

-- it takes one by the record, behind all others of its takings
pub record IsTakingBy (s : Scenario) (hs front back : List Happening) (now : ℕ) (w : Happening) (device : DeviceId) (vl : VlId)
    (cycle : ℕ) : Type 0 where
  pub quiet : IsQuiet hs front back w device
  pub at : time_of w ≡ now
  pub takes : (z : ℤ) → taken_in device z w.note.body ≡ record { vl = vl; cycle = cycle; at = z } ∷ []
  pub behind : (h : Happening) → IsIn h back → IsNoTaking device h.note.body

pub kept_taking : {M : Type 0} (stands : M → Network → DeviceId → Node → Type 0) {s : Scenario}
    {hs front back : List Happening} {w : Happening} {frontier : List ℕ} {now : ℕ} {device : DeviceId} {machine : M}
    (after : M) {vl : VlId} {cycle : ℕ} → IsTakingBy s hs front back now w device vl cycle
    → IsSteady (s.reading device) (amount s.network.precision) → pos 0 ≤ℤ s.network.precision.0
    → ((p : List ℕ) → IsBefore p (now ∷ 2 ∷ []) → IsBefore p frontier)
    → (k : IsKept (After stands after (took (moment_of s device now) vl cycle)) s hs (front
    ++ back) frontier now device machine) → k.up ≡ now → HasRested s device k.node
    (changed_at (hs ++ (front ++ back)) device k.up) k.up
    → IsKept stands s hs (front ++ w ∷ back) frontier now device after
kept_taking stands {s} {hs} {front} {back} {w} {frontier} {now} {device} after {vl} {cycle} t steady precise come k up
    rests =
    let m = moment_of s device now in
    let js = hs ++ (front ++ back) in
    let gs = hs ++ (front ++ w ∷ back) in
    let new = took m vl cycle k.node in
    let none = t.quiet.bears in
    let done : HasDoneFrom s.network (s.reading device) device k.node (changed_at js device k.up) now k.up =
    subst (λ n. HasDoneFrom s.network (s.reading device) device k.node (changed_at js device k.up) n k.up) up rests.done in
    let done_then = subst (λ n. HasDoneFrom s.network (s.reading device) device new (changed_at js device k.up) n k.up) (sym up)
    (done_took s now vl cycle steady done) in
    let left_now : IsLeft s js device now k.node = rw (sym up) k.left in
    let shows : local_at k.node m ≡ local_before s js device now =
    rw left_now.counted.adjustment in
    let took_it : new.taken ≡ frames_taken s gs device =
    rw k.taken
    ((rw shows
    ((rw (sym (t.takes (local_before s js device now)))
    ((rw (sym t.at)
    ((rw (sym (append_assoc hs front back))
    (sym (frames_with s (hs ++ front) back w device t.behind
    (λ h i. t.quiet.sooner h (rw (sym (append_assoc hs front back)) i)))
    ∙ (rw (append_assoc hs front (w ∷ back)))))))))))) in
    record {
      node = new;
      is = k.is;
      sound = k.sound;
      up = k.up;
      acted = k.acted;
      told = λ over. absurd (omega (arith, over, up));
      left = left_took m vl cycle (left_aside s hs front back w device none k.left);
      taken = took_it;
      worked = worked_by {s = s} {device = device} {node = new} {changed = changed_at gs device k.up}
          {t = k.up} frontier (record {
            done = subst (λ c. HasDoneFrom s.network (s.reading device) device new c k.up k.up)
                (changed_aside s hs front back w device none k.up) done_then;
            sent = sent_took s now vl cycle rests.sent;
          }) (λ x task lt. come _ (inl (omega (arith, lt, up))));
      bare = k.bare;
      ready = ready_took s now vl cycle steady precise k.ready;
      still = λ same. still_aside s hs front back w device now (moves_no_other device w.note.body none) (k.still same);
      turned = λ on. turned_aside s hs front back w device (k.turned on) (earlier_aside s hs front back w device none now);
      cleared = k.cleared;
      phase = λ same p b. come p b;
    }
