-- Events and the records of what comes of them: what code sees of them, and what they leave as it was.
use Rattle.std.proofs.Common.{arith}
use Rattle.run_law.{specs.{control.Wires.time_on_port, runs.DueRecords.IsEventRecord, scenario.Ways.delay_at}}
use Rattle.run_law.proofs.{law.FirstDeliveries.{due_is_there, in_at, split}, records.{Members.from_flat, Order.in_any}}
use Rattle.run_law.proofs.{scenario.Devices.on_by}
use Rattle.world_law.{specs.{steps.Befalling.befell_bodies, world.{Moves.ArePut, World.AreInOrder}}}
use Rattle.world_law.proofs.{devices.Unmoved.keeps_state, lists.Lists.map_none}
use Rattle.world_law.proofs.steps_lemmas.Words
use Words.{if◌then◌else◌, ◌&&◌, ◌++◌, ◌+◌, ◌<◌, ◌==◌, ◌||◌, ◌↔◌, ◌∙◌, ◌∷◌, ◌≡◌, ◌≤ℤ◌, ◌≤◌, ◌⊎◌, ArePutIn, Arrives}
use Words.{Befell, Bool, DeviceId, Event, Happening, Integrating, IsBefore, IsCaused, IsDue, IsFounded, IsIn, IsLeft}
use Words.{IsOfThisTime, IsRun, IsSendLost, Launch, Link, LinkId, List, Network, Node, None, Note, NoteBody, On, OnWire}
use Words.{Option, Scenario, Signal, Some, Stands, Units, Up, What, World, [], adjustment_after, after_last, amount}
use Words.{and_parts, ap, append-nil, append_assoc, behind_no, bodies_of, both_ways, by_number, cases_Bool, cases_lt}
use Words.{cause_of, changes_adjustment, cleared_in, cycle_in, earlier, ends_stretch, eq-eqb, eqb-true, false, filter}
use Words.{filter_map, filter_no, filter_yes, fold, fold-append, founded_at, happening, happenings, heard_since}
use Words.{hearing_by, inl, inr, integration_cycle, is_broken, is_cut, is_joined_by, is_turned_on_at, keeps_adjustment}
use Words.{launched, length, length-append, link_at, list_any, local_in, moves, nat_le, nat_lt, next_in, not, numbered}
use Words.{numbered_in, option_map, option_map_or, place_of, point_by, points_of, pos, recorded_cycle, refl}
use Words.{same_before, signal_of, slice_get, state_after, state_with, subst, suc, sym, target_by, time_of, true}
use Words.{turns_on, up_to, wire_place, ℕ}
use Rattle.net_plan.specs.declared.event.What.TheVariants as events
use Rattle.run_law.specs.declared.note.NoteBody.TheVariants as kinds

-- ---- the record of what comes of an event leaves a device as it was, but for its state

-- is it the record that a device was turned on, or that what was sent met a cut way?
abbrev pub is_calm : NoteBody → Bool
is_calm (kinds.State device Integrating cause On) = true
is_calm (kinds.Lost device link cause) = true
is_calm other = false

calm_changes : (device : DeviceId) (body : NoteBody) → is_calm body ≡ true → changes_adjustment device body ≡ false
calm_changes device (kinds.State other Integrating cause On) e = refl
calm_changes device (kinds.Lost other link cause) e = refl
calm_changes device other e = absurd cc

calm_ends : (device : DeviceId) (body : NoteBody) → is_calm body ≡ true → ends_stretch device body ≡ false
calm_ends device (kinds.State other Integrating cause On) e = refl
calm_ends device (kinds.Lost other link cause) e = refl
calm_ends device other e = absurd cc

calm_point : (device : DeviceId) (h : Happening) (body : NoteBody) → is_calm body ≡ true → point_by device h body ≡ None
calm_point device h (kinds.State other Integrating cause On) e = refl
calm_point device h (kinds.Lost other link cause) e = refl
calm_point device h other e = absurd cc

calm_hears : (network : Network) (device : DeviceId) (h : Happening) (body : NoteBody) → is_calm body ≡ true → hearing_by network device h body ≡ None
calm_hears network device h (kinds.State other Integrating cause On) e = refl
calm_hears network device h (kinds.Lost other link cause) e = refl
calm_hears network device h other e = absurd cc

pub calm_joins : (device : DeviceId) (body : NoteBody) → is_calm body ≡ true → is_joined_by device body ≡ false
calm_joins device (kinds.State other Integrating cause On) e = refl
calm_joins device (kinds.Lost other link cause) e = refl
calm_joins device other e = absurd cc

-- ---- a node

filtered_none : {X Y : Type 0} (f : X → Option Y) (k : X → Bool) (xs : List X) (x : X) → f x ≡ None
    → filter_map f (filter k (xs ++ x ∷ [])) ≡ filter_map f (filter k xs)
filtered_none f k xs x e = grind (arith, cases_Bool, filter_map, filter_yes, map_none, filter, filter_no)

heard_calm : (s : Scenario) (hs : List Happening) (z : Happening) (device : DeviceId) (t : ℕ) → t ≤ time_of z → is_calm z.note.body ≡ true
    → heard_since s (hs ++ z ∷ []) device t ≡ heard_since s hs device t
heard_calm s hs z device t late calm =
    let f = λ (h : Happening). hearing_by s.network device h h.note.body in
    let k = λ (w : List Happening) (h : Happening). not (cleared_in s device w t) || cleared_in s device w (time_of h) in
    let p = λ (h : Happening). nat_lt (time_of h) t && changes_adjustment device h.note.body in
    let none = both_no (nat_lt (time_of z) t) (changes_adjustment device z.note.body)
    (calm_changes device z.note.body calm) in
    rw (behind_no p hs z none)
    (rw (same_before t hs z late)
    (filtered_none f (k (earlier t hs)) (after_last p hs) z (calm_hears s.network device z z.note.body calm)))
  where
    both_no : (a b : Bool) → b ≡ false → (a && b) ≡ false
    both_no true b e = e
    both_no false b e = refl

points_calm : (hs : List Happening) (z : Happening) (device : DeviceId) → is_calm z.note.body ≡ true → points_of (hs ++ z ∷ []) device ≡ points_of hs device
points_calm hs z device calm = grind (arith, point_by, ends_stretch, filter_map, behind_no, calm_ends, map_none, after_last, calm_point)

-- what stood for the records before does so with such a record of the time, or of a later one
left_calm : {s : Scenario} {hs : List Happening} (z : Happening) {device : DeviceId} {t : ℕ} {node : Node}
    → t ≤ time_of z → is_calm z.note.body ≡ true → IsLeft s hs device t node → IsLeft s (hs ++ z ∷ []) device t node
left_calm z late calm left =
    grind (
      arith,
      earlier,
      same_before,
      adjustment_after,
      integration_cycle,
      next_in,
      local_in,
      heard_calm,
      recorded_cycle,
      is_turned_on_at,
      state_after,
      points_calm,
    )

-- the same with such records one after the other
pub left_all_calm : {s : Scenario} {hs : List Happening} (zs : List Happening) {device : DeviceId} {t : ℕ}
    {node : Node} → ((z : Happening) → IsIn z zs → t ≤ time_of z)
    → ((z : Happening) → IsIn z zs → is_calm z.note.body ≡ true) → IsLeft s hs device t node
    → IsLeft s (hs ++ zs) device t node
left_all_calm {s} {hs} [] {device} {t} {node} late calm left =
    rw (append-nil hs) left
left_all_calm {s} {hs} (z ∷ zs) {device} {t} {node} late calm left =
    rw (append_assoc hs (z ∷ []) zs) at (left_all_calm zs (λ y i. late y (inr i)) (λ y i. calm y (inr i))
    (left_calm z (late z (inl refl)) (calm z (inl refl)) left))

-- ---- folds up to a time

fold_up : {B : Type 0} (f : B → Happening → B) (b : B) (now : ℕ) (hs zs : List Happening) → ((z : Happening) → IsIn z zs → (y : B) → f y z ≡ y)
    → fold f b (up_to now (hs ++ zs)) ≡ fold f b (up_to now hs)
fold_up f b now hs [] none = rw (append-nil hs)
fold_up f b now hs (z ∷ zs) none =
    grind (
      arith,
      nat_le,
      time_of,
      fold,
      up_to,
      append_assoc,
      cases_Bool,
      filter_yes,
      fold-append,
      filter_no,
      (fold_up f b now (hs ++ z ∷ []) zs (λ y i. none y (inr i))),
    )

module _ (s : Scenario) (hs zs : List Happening) (device : DeviceId) (now : ℕ)
    (none : ((z : Happening) → IsIn z zs → moves device z.note.body ≡ false)) where
  -- records that do not move a device leave its state and its adjustment
  pub state_unmoved : state_after s (up_to now (hs ++ zs)) device ≡ state_after s (up_to now hs) device
  state_unmoved =
      fold_up (λ state h. state_with device state h.note.body) _ now hs zs
      (λ z i y. keeps_state device y z.note.body (none z i))

  pub adjustment_unmoved : adjustment_after s (up_to now (hs ++ zs)) device ≡ adjustment_after s (up_to now hs) device
  adjustment_unmoved =
      search (arith, fold_up, cycle_in, keeps_adjustment)

-- ---- the events of a run and their records: a test of a list

any_from : {X : Type 0} (p : X → Bool) (xs : List X) → list_any p xs ≡ true → (i : ℕ) × (x : X) × (slice_get xs i ≡ Some x) × (p x ≡ true)
any_from p [] e = absurd cc
any_from p (x ∷ xs) e =
    elim (cases_Bool (p x)) [
      | inl here ↦ (0, x, refl, here)
      | inr not ↦ let more = any_from p xs (sym (rw not) ∙ e) in (suc more.0, more.1, more.2, more.3)
    ]

-- ---- the event of a record

-- a record that says so is that of an event
pub event_due : (s : Scenario) (hs : List Happening) (h : Happening) (line : ℕ) (what : What) → IsFounded place_of (IsDue s) hs → IsIn h hs
    → h.note.body ≡ kinds.Event line what → IsEventRecord s.events h.note.time line what
event_due s hs h line what founded i is =
    let at = founded_at s hs h founded i in
    subst (λ b. IsCaused s at.front h.note.time b) is at.due.cause

-- by the record of its event the device is turned on at the time
pub on_by_record : (s : Scenario) {time : Units} {line : ℕ} {now : ℕ} (device : DeviceId)
    → IsEventRecord s.events time line (events.On device) → amount time ≡ now → is_turned_on_at s device now ≡ true
on_by_record s {now} device r at =
    let on : turns_on device r.event.what ≡ true = ap (turns_on device) (sym r.same) ∙ eq-eqb device.0 device.0 refl in
    let then_ = eq-eqb (amount r.event.time) now (ap amount (sym r.at) ∙ at) in
    in_any (λ e. turns_on device e.what && amount e.time == now) s.events r.event (in_at s.events r.before r.event r.is)
    (rw on then_)

-- ---- the record of an event

-- where a device is turned on at the time, an event does so
pub on_by_event : (s : Scenario) (device : DeviceId) (now : ℕ) → is_turned_on_at s device now ≡ true → (i : ℕ) × (e : Event) × (slice_get s.events i ≡ Some e)
    × (e.what ≡ events.On device) × (amount e.time ≡ now)
on_by_event s device now on = grind (arith, any_from, turns_on, amount, and_parts, on_by, eqb-true)

-- an event before the frontier has its record
pub recorded : (s : Scenario) {frontier : List ℕ} {hs : List Happening} (i : ℕ) {e : Event}
    → IsRun place_of (IsDue s) frontier hs → slice_get s.events i ≡ Some e
    → pos 0 ≤ℤ e.time.0 → IsBefore (amount e.time ∷ 1 ∷ (i + 1) ∷ []) frontier → (n : ℕ) × (h : Happening)
    × (numbered hs n ≡ Some h) × (h.note.time ≡ e.time)
    × (h.note.body ≡ kinds.Event (i + 1) e.what)
recorded s {hs} i {e} run get begun told =
    let at = split place_of (IsDue s) hs (amount e.time ∷ 1 ∷ (i + 1) ∷ []) run.founded in
    let note : Note = record { number = length at.front + 1; time = e.time; body = kinds.Event (i + 1) e.what } in
    let x = happening s.network at.front note in
    let due : IsDue s at.front x = record {
      number = refl;
      same = refl;
      begun = begun;
      cause = record { event = e; before = i; line_is = refl; is = get; at = refl; same = refl };
    } in
    (x.note.number, x, by_number s hs x run.founded (due_is_there at run due told), refl, refl)

-- ---- what code sees of the pending events: what each puts on wires, one after the other

-- ---- each device that is turned on is one of the network

pub on_within : {C M : Type 0} (reading : C → ℕ → ℕ) (stands : M → Network → DeviceId → Node → Type 0) (s : Scenario) (world : World C M) (notes : List Note)
    → Stands reading stands s world notes → (e : Befell) (device : DeviceId) → IsIn e world.befell → e.what ≡ events.On device
    → device.0 < length s.network.device
on_within reading stands s world notes old e device i on =
    let hs = happenings s.network notes in
    let it = old.untold.real e i in
    let due = event_due s hs it.1 it.0 (events.On device) old.run.founded (numbered_in hs e.number it.1 it.2.there)
    (it.3 ∙ ap (λ (w : What). kinds.Event it.0 w) on) in
    elim (cases_lt device.0 (length s.network.device)) [
      | inl lt ↦ lt
      | inr ge ↦ absurd (both_ways _ (old.known.never_on device ge world.now)
          (on_by_record s device due it.2.same_time))
    ]

-- ---- what an event puts on wires

-- the octets on the way up, to the link's parent
abbrev pub sent_on : Scenario → ℕ → ℕ → LinkId → List ℕ → Link → OnWire
sent_on s now number link octets l = record {
  at = now + time_on_port s.network link (signal_of octets) + delay_at s link Up now;
  device = l.parent;
  link = link;
  cause = number;
  signal = signal_of octets;
}

-- where that way is not cut
abbrev pub wires_of : Scenario → ℕ → ℕ → What → List OnWire
wires_of s now number (events.Send link octets) =
    if is_cut s link Up now then [] else option_map_or (λ l. sent_on s now number link octets l ∷ []) (link_at s.network link) []
wires_of s now number other = []

abbrev launch_on : Scenario → LinkId → List ℕ → ℕ → Option Launch
launch_on s link octets t = if is_cut s link Up t then None else Some (record { link = link; way = Up; signal = signal_of octets })

module _ (s : Scenario) {now : ℕ} (number : ℕ) (link : LinkId) (octets : List ℕ) (h : Happening) where
  sent_real : (e : OnWire) (cut : Bool) (o : Option Link) → time_of h ≡ now → is_cut s link Up now ≡ cut
      → link_at s.network link ≡ o → launched s h (time_of h) h.note.body ≡ launch_on s link octets (time_of h)
      → IsIn e (if cut then [] else option_map_or (λ (l : Link). sent_on s now number link octets l ∷ []) o [])
      → (e.cause ≡ number) × Arrives s h e.device e.link e.at e.signal
  sent_real e true o at cut there put i = absurd i
  sent_real e false None at cut there put i = absurd i
  sent_real e false (Some l) at cut there put (inr none) = absurd none
  sent_real e false (Some l) at cut there put (inl same) = grind (arith, signal_of, is_cut, option_map, target_by)

  sent_all : (cut : Bool) (o : Option Link) → time_of h ≡ now → is_cut s link Up now ≡ cut
      → link_at s.network link ≡ o → launched s h (time_of h) h.note.body ≡ launch_on s link octets (time_of h)
      → {device : DeviceId} {by : LinkId} {t : ℕ} {signal : Signal} → Arrives s h device by t signal
      → (e : OnWire) × IsIn e (if cut then [] else option_map_or (λ (l : Link). sent_on s now number link octets l
      ∷ []) o []) × (wire_place e ≡ t ∷ 2 ∷ device.0 ∷ by.0 ∷ number ∷ [])
  sent_all true o at cut there put a = grind (arith, signal_of, is_cut)
  sent_all false o at cut there put {device} {by} {t} {signal} a =
      let here : Launch = record { link = link; way = Up; signal = signal_of octets } in
      let same : here ≡ ((record { link = by; way = a.way; signal = signal })) = cc in
      let link_is : link ≡ by = ap (λ x. x.link) same in
      let way_is : Up ≡ a.way = ap (λ x. x.way) same in
      let signal_is : signal_of octets ≡ signal = ap (λ x. x.signal) same in
      let receives : option_map (target_by Up) o ≡ Some device = ap (option_map (target_by Up)) (sym there)
      ∙ (rw way_is ((rw link_is a.receiver))) in
      let time_is : t ≡ now + time_on_port s.network link (signal_of octets) + delay_at s link Up now =
      a.at ∙ (rw (sym signal_is)
      ((rw (sym way_is)
      ((rw (sym link_is)
      ((rw at))))))) in
      from o receives time_is link_is
    where
      from : (p : Option Link) → option_map (target_by Up) p ≡ Some device → t ≡ now + time_on_port s.network link
          (signal_of octets) + delay_at s link Up now
          → link ≡ by → (e : OnWire) × IsIn e (option_map_or (λ (l : Link). sent_on s now number link octets l ∷ [])
          p [])
          × (wire_place e ≡ t ∷ 2 ∷ device.0 ∷ by.0 ∷ number ∷ [])
      from None receives time_is link_is = absurd cc
      from (Some l) receives time_is link_is =
          let device_is : l.parent ≡ device = cc in (
            sent_on s now number link octets l,
            inl refl,
            rw (sym time_is)
                (ap (λ (d : DeviceId). t ∷ 2 ∷ d.0 ∷ link.0 ∷ number ∷ []) device_is
                ∙ (rw link_is)),
          )

event_real : (s : Scenario) (now number line : ℕ) (what : What) (h : Happening) (e : OnWire) → time_of h ≡ now → h.note.body ≡ kinds.Event line what
    → IsIn e (wires_of s now number what) → (e.cause ≡ number) × Arrives s h e.device e.link e.at e.signal
event_real s now number line (events.Send link octets) h e at is i =
    sent_real s number link octets h e (is_cut s link Up now) (link_at s.network link) at refl refl
    (ap (launched s h (time_of h)) is) i
event_real s now number line other h e at is i = absurd i

event_all : {s : Scenario} (now number line : ℕ) (what : What) {h : Happening} → time_of h ≡ now
    → h.note.body ≡ kinds.Event line what → {device : DeviceId} {link : LinkId} {t : ℕ} {signal : Signal}
    → Arrives s h device link t signal → (e : OnWire) × IsIn e (wires_of s now number what)
    × (wire_place e ≡ t ∷ 2 ∷ device.0 ∷ link.0 ∷ number ∷ [])
event_all {s} now number line (events.Send by octets) {h} at is {device} {link} {t} {signal} a =
    sent_all s number by octets h (is_cut s by Up now) (link_at s.network by) at refl refl
    (ap (launched s h (time_of h)) is) a
event_all {s} now number line other {h} at is {link} {signal} a =
    absurd (cc)

-- so a list of wires with just those more has what the record of the event puts there
pub put_event : (s : Scenario) (hs : List Happening) (now number line : ℕ) (what : What) (h : Happening) (old new : List OnWire) → IsOfThisTime hs now number h
    → h.note.body ≡ kinds.Event line what → ((e : OnWire) → IsIn e new ↔ (IsIn e old ⊎ IsIn e (wires_of s now number what))) → ArePut s h number old new
put_event s hs now number line what h old new it is with_it = record {
  real = λ e i. elim ((with_it e).0 i) [ inl was ↦ inl was | inr fresh ↦ inr (event_real s now number line what h e it.same_time is fresh) ];
  kept = λ e i. (with_it e).1 (inl i);
  all = λ device link t signal a.
      let found = event_all now number line what it.same_time is a in
      (found.0, (with_it found.0).1 (inr found.1), found.2);
}

-- ---- one more, as at a step of a loop

pub put_in_more : (network : Network) (hs : List Happening) (now : ℕ) (bodies more : List NoteBody) (old mid new : List Happening)
    → ArePutIn network hs now bodies old mid → ArePutIn network hs now more mid new → ArePutIn network hs now (bodies ++ more) old new
put_in_more network hs now [] more old mid new put then_ = rw put at then_
put_in_more network hs now (b ∷ bodies) more old mid new (next, one, later) then_ = (next, one, put_in_more network hs now bodies more next mid new later then_)

-- ---- what comes of events, as records: those of their bodies, in their order

-- this comes of an event of the instant: a sound device is turned on, or what is sent meets a cut way
pub data IsOutcome (s : Scenario) (hs : List Happening) (now : ℕ) : NoteBody → Type 0 where
  turning : (device : DeviceId) (cause line : ℕ) (h : Happening) → is_broken s device now ≡ false → IsOfThisTime hs now cause h
      → h.note.body ≡ kinds.Event line (events.On device) → IsOutcome s hs now (kinds.State device Integrating cause On)
  losing : (device : DeviceId) (link : LinkId) (cause : ℕ) → IsSendLost s hs device now link cause → IsOutcome s hs now (kinds.Lost device link cause)

pub calm_outcome : {s : Scenario} {hs : List Happening} {now : ℕ} {body : NoteBody} → IsOutcome s hs now body
    → is_calm body ≡ true
calm_outcome (IsOutcome.turning device cause line h sound it is) = refl
calm_outcome (IsOutcome.losing device link cause it) = refl

-- ---- of one event

module _ (s : Scenario) {hs : List Happening} {now number : ℕ} (line : ℕ) where
  turned_body : (device : DeviceId) {h : Happening} (b : NoteBody) (x : Bool) → is_broken s device now ≡ x
      → IsOfThisTime hs now number h → h.note.body ≡ kinds.Event line (events.On device)
      → IsIn b (if x then [] else kinds.State device Integrating number On ∷ [])
      → IsOutcome s hs now b × (cause_of b ≡ number)
  turned_body device b true sound it is i = absurd i
  turned_body device {h} b false sound it is (inl same) =
      (subst (IsOutcome s hs now) (sym same) (IsOutcome.turning device number line h sound it is), ap cause_of same)
  turned_body device b false sound it is (inr none) = absurd none

  cut_body : (link : LinkId) (octets : List ℕ) {way : Link} {h : Happening} (b : NoteBody) (x : Bool)
      → is_cut s link Up now ≡ x → link_at s.network link ≡ Some way → IsOfThisTime hs now number h
      → h.note.body ≡ kinds.Event line (events.Send link octets)
      → IsIn b (if x then kinds.Lost way.child link number ∷ [] else [])
      → IsOutcome s hs now b × (cause_of b ≡ number)
  cut_body link octets b false cut there it is i = absurd i
  cut_body link octets {way} {h} b true cut there it is (inl same) = (
    subst (IsOutcome s hs now) (sym same)
        (IsOutcome.losing way.child link number
        (record { event = h; is = it; line = line; octets = octets; sends = is; way = way; there = there; by = refl; cut = cut })),
    ap cause_of same,
  )
  cut_body link octets b true cut there it is (inr none) = absurd none

  lost_body : (link : LinkId) (octets : List ℕ) {h : Happening} (b : NoteBody) (o : Option Link)
      → link_at s.network link ≡ o → IsOfThisTime hs now number h
      → h.note.body ≡ kinds.Event line (events.Send link octets)
      → IsIn b (option_map_or (λ way. if is_cut s link Up now then kinds.Lost way.child link number
      ∷ [] else []) o []) → IsOutcome s hs now b × (cause_of b ≡ number)
  lost_body link octets b None there it is i = absurd i
  lost_body link octets b (Some way) there it is i =
      cut_body link octets b (is_cut s link Up now) refl there it is i

  -- each is an outcome, and its cause is the event's record
  each_body : (what : What) {h : Happening} (b : NoteBody) → IsOfThisTime hs now number h
      → h.note.body ≡ kinds.Event line what → IsIn b (bodies_of s now number what)
      → IsOutcome s hs now b × (cause_of b ≡ number)
  each_body (events.On device) b it is i = turned_body device b (is_broken s device now) refl it is i
  each_body (events.Send link octets) b it is i = lost_body link octets b (link_at s.network link) refl it is i
  each_body other b it is i = absurd i

few_if : (x : Bool) (b : NoteBody) → length (if x then [] else b ∷ []) ≤ 1
few_if true b = omega arith
few_if false b = omega arith

few_then : (x : Bool) (b : NoteBody) → length (if x then b ∷ [] else []) ≤ 1
few_then true b = omega arith
few_then false b = omega arith

module _ (s : Scenario) (now number : ℕ) where
  few_lost : (link : LinkId) (o : Option Link) → length
      (option_map_or (λ way. if is_cut s link Up now then kinds.Lost way.child link number
      ∷ [] else []) o []) ≤ 1
  few_lost link None = omega arith
  few_lost link (Some way) = few_then (is_cut s link Up now) (kinds.Lost way.child link number)

  few_bodies : (what : What) → length (bodies_of s now number what) ≤ 1
  few_bodies (events.On device) = few_if (is_broken s device now) (kinds.State device Integrating number On)
  few_bodies (events.Send link octets) = few_lost link (link_at s.network link)
  few_bodies other = omega arith

-- ---- of all

-- each of these befell at the instant
abbrev pub HaveRecords : List Happening → ℕ → List Befell → Type 0
HaveRecords hs now befell =
    (e : Befell) → IsIn e befell → (line : ℕ) × (h : Happening) × IsOfThisTime hs now e.number h × (h.note.body ≡ kinds.Event line e.what)

pub all_bodies : (s : Scenario) (hs : List Happening) (now : ℕ) (befell : List Befell) → HaveRecords hs now befell → (b : NoteBody)
    → IsIn b (befell_bodies s now befell) → IsOutcome s hs now b × ((e : Befell) × IsIn e befell × (cause_of b ≡ e.number))
all_bodies s hs now befell real b i =
    search (arith, from_flat, each_body)

pub few_all : (s : Scenario) (now : ℕ) (befell : List Befell) → length (befell_bodies s now befell) ≤ length befell
few_all s now [] = omega arith
few_all s now (e ∷ befell) = grind (arith, few_bodies, length-append, bodies_of, (few_all s now befell))

-- the causes of the bodies rise
abbrev pub AreRising : List NoteBody → Type 0
AreRising [] = Unit {0}
AreRising (b ∷ bodies) = ((c : NoteBody) → IsIn c bodies → cause_of b < cause_of c) × AreRising bodies

rising_more : (bs more : List NoteBody) → length bs ≤ 1 → ((b c : NoteBody) → IsIn b bs → IsIn c more → cause_of b < cause_of c) → AreRising more
    → AreRising (bs ++ more)
rising_more [] more few less rising = rising
rising_more (b ∷ []) more few less rising = (λ c i. less b c (inl refl) i, rising)
rising_more (b ∷ c ∷ bs) more few less rising = absurd (omega arith)

pub all_rising : (s : Scenario) (hs : List Happening) (now : ℕ) (befell : List Befell) → HaveRecords hs now befell → AreInOrder befell
    → AreRising (befell_bodies s now befell)
all_rising s hs now [] real order = tt
all_rising s hs now (e ∷ befell) real order =
    let later : HaveRecords hs now befell = λ f i. real f (inr i) in
    let it = real e (inl refl) in
    rising_more (bodies_of s now e.number e.what) (befell_bodies s now befell) (few_bodies s now e.number e.what) (λ b c i j.
    let first = (each_body s it.0 e.what b it.2 it.3 i).1 in
    let next = (all_bodies s hs now befell later c j).1 in
    let lt = order.0 next.0 next.1 in
    let cause = next.2 in
    omega arith) (all_rising s hs now befell later order.1)
