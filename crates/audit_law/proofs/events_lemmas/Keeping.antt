-- Events within the hypothesis, the clocks that they set, and a history once one more is added.
use Rattle.std.proofs.{Math.Nat.mul-le-mul_right}
use Rattle.std.proofs.Common
use Common.{if◌then◌else◌, ◌&&◌, ◌*◌, ◌++◌, ◌+◌, ◌-◌, ◌<◌, ◌==◌, ◌^◌, ◌||◌, ◌∙◌, ◌∷◌, ◌≡◌, ◌≤ℤ◌, ◌≤◌, Bool, List, None}
use Common.{Option, Some, [], ap, append_assoc, arith, false, inl, inr, length, nat_le, pos, refl, subst, suc, sym}
use Common.{true, unsigned_abs, zero, ℕ}
use Rattle.std.proofs.lemmas.{Int.ints}
use Rattle.std.proofs.lemmas.{List.{Elements.{All-push, filter-append, filter_map-append}, Folds.list_any-append}}
use Rattle.std.proofs.lemmas.Bool.{and_parts, and_right, cases_Bool, cases_lt, eq-eqb, eqb-true, false_from_ne_true}
use Rattle.std.proofs.lemmas.Bool.{false≢true}
use Rattle.std.specs.{Int.abs_diff, List.{Any, cons_option, list_any}, Prelude.{filter, slice_get, slice_set}}
use Rattle.std.specs.{Result.MatchResult, declared.result.Result.{Result, TheVariants.{Err, Ok}}}
use Rattle.audit_law.{proofs.events_lemmas.Clocks.{StepsFrom, StepsUpTo, set_stays, steps_history, steps_sooner}}
use Rattle.audit_law.specs.declared.events.history.{DeviceHistory.DeviceHistory, EventHistory.EventHistory}
use Rattle.audit_law.specs.declared.events.history.{WayHistory.WayHistory}
use Rattle.audit_law.specs.events.{Clocks.clocks_after}
use Rattle.audit_law.specs.events.{Readings.{ClocksReadOn, HaveBegun, clock_reading, scenario_under}}
use Rattle.audit_law.specs.events.{Remembering.{MayBefall, Remembers, TellsDevice, TellsWay, way_place}}
use Rattle.drift_clock.specs.{ClockLaws.{AlwaysBeginsAtZero, AlwaysKeepsClockLaws}, RateSteps.RateStep}
use Rattle.drift_clock.specs.{Segment.{Segment, fresh_segment, segment_reading, stepped_segment}}
use Rattle.net_plan.{proofs.SameIds.{same_device, same_link}}
use Rattle.net_plan.specs.{Ranges.IsInRange}
use Rattle.net_plan.specs.declared.{event.Event.Event, ids.{DeviceId.DeviceId, LinkId.LinkId}, network.Network.Network}
use Rattle.net_plan.specs.declared.{tables.Way.{TheVariants.{Down, Up}, Way}}
use Rattle.run_law.proofs.scenario.{Ways.way_itself}
use Rattle.run_law.proofs.scenario.Devices.{Holds, IsSlow, IsStepAt, all_within, broken_by, in_turn, on_by, slow_event}
use Rattle.run_law.proofs.scenario.Devices.{step_is}
use Rattle.run_law.specs.scenario.{Faults.{Breaks, TurnsOn}}
use Rattle.run_law.specs.scenario.{Hypothesis.{AreWithinHypothesis, IsWithinHypothesis, breaks_at}}
use Rattle.run_law.specs.scenario.{Rates.{rate_steps, step_by}, Scenarios.{is_broken, is_turned_on_at, turns_on}}
use Rattle.run_law.specs.scenario.{Ways.{cut_set, hold_set, is_way, is_way_of, wire_of, wire_set}}
use Rattle.tte_units.{proofs.general_lemmas.{Bools.or_none, Lists.{any_behind, any_first, none_before, set_other}}}
use Rattle.tte_units.{specs.{Amount.amount, declared.rates.Ppb.Ppb}}
use Rattle.net_plan.specs.declared.event.What.TheVariants as events
use Rattle.run_law.specs.declared.outside.Outside.TheVariants as outside

-- ---- events within the hypothesis come in the order of time, and set slow rates

-- ---- one event

pub soon : {network : Network} (before : List Event) (event : Event) → IsInRange network
    → IsWithinHypothesis network before event → pos 0 ≤ℤ event.time.0 → amount event.time ≤ 2 ^ 60
soon {network} before event range within begun = elim (cases_lt (2 ^ 60) (amount event.time)) [
  | inl late ↦
      let low = range.cycle.least in
      let high = range.cycle.most in
      let cycle : amount network.cycle ≤ 2 ^ 40 = omega (arith, ints) in
      absurd (within outside.Late (omega (arith, ints)))
  | inr le ↦ le
]

-- ---- the events in their order

-- events in the order of time, from a time on and up to 2^60, each of which sets no fast rate
abbrev pub AreEventsFrom : ℕ → ℕ → List Event → Type 0
AreEventsFrom rho least [] = Unit {0}
AreEventsFrom rho least (e ∷ es) = (least ≤ amount e.time) × (amount e.time ≤ 2 ^ 60) × IsSlow rho e.what × AreEventsFrom rho (amount e.time) es

begun_in : (front : List Event) (e : Event) (rest : List Event) → HaveBegun (front ++ e ∷ rest) → pos 0 ≤ℤ e.time.0
begun_in [] e rest begun = begun 0 e (omega arith)
begun_in (x ∷ front) e rest begun = begun_in front e rest (λ k d lt. begun (suc k) d (omega arith))

begun_at : (all front : List Event) (e : Event) (rest : List Event) → all ≡ front ++ e ∷ rest → HaveBegun all → pos 0 ≤ℤ e.time.0
begun_at all front e rest same begun = begun_in front e rest (subst HaveBegun same begun)

in_order_behind : {network : Network} (all front rest : List Event) (last : Event) → IsInRange network
    → all ≡ (front ++ last ∷ []) ++ rest → AreWithinHypothesis network all → HaveBegun all
    → AreEventsFrom network.rho (amount last.time) rest
in_order_behind all front [] last range same within begun = tt
in_order_behind {network} all front (e ∷ rest) last range same within begun =
    let here = within (front ++ last ∷ []) rest e same in
    let at_last = begun_at all front last (e ∷ rest) (same ∙ append_assoc front (last ∷ []) (e ∷ rest)) begun in
    let at_e = begun_at all (front ++ last ∷ []) e rest same begun in (
      in_turn network front last e here at_last at_e,
      soon (front ++ last ∷ []) e range here at_e,
      slow_event network (front ++ last ∷ []) e here,
      in_order_behind all (front ++ last ∷ []) rest e range
          (same ∙ sym (append_assoc (front ++ last ∷ []) (e ∷ []) rest)) within begun,
    )

pub events_from : {network : Network} (all : List Event) → IsInRange network → AreWithinHypothesis network all
    → HaveBegun all → AreEventsFrom network.rho 0 all
events_from [] range within begun = tt
events_from {network} (e ∷ es) range within begun =
    let here = within [] es e refl in (
      omega arith,
      soon [] e range here (begun_in [] e es begun),
      slow_event network [] e here,
      in_order_behind (e ∷ es) [] es e range refl within begun,
    )

-- ---- their steps

more_steps : (rho least time : ℕ) (o : Option RateStep) (steps : List RateStep) → least ≤ time → time ≤ 2 ^ 60 → Holds o (IsStepAt rho time)
    → StepsFrom rho time steps → StepsFrom rho least (cons_option o steps)
more_steps rho least time None steps le most here h = steps_sooner rho least time steps le h
more_steps rho least time (Some step) steps le most here h = grind (arith, steps_sooner)

pub steps_from : (rho least : ℕ) (all : List Event) (device : DeviceId) → AreEventsFrom rho least all → StepsFrom rho least (rate_steps all device)
steps_from rho least [] device h = tt
steps_from rho least (e ∷ es) device h =
    more_steps rho least (amount e.time) (step_by device (amount e.time) e.what) (rate_steps es device) h.0 h.1
    (step_is rho device (amount e.time) e.what h.2) (steps_from rho (amount e.time) es device h.3)

-- ---- an event behind them

last_later : (rho least : ℕ) (all : List Event) (event : Event) → AreEventsFrom rho least (all ++ event ∷ []) → least ≤ amount event.time
last_later rho least [] event h = h.0
last_later rho least (e ∷ es) event h = let behind = last_later rho (amount e.time) es event h.3 in omega (arith, h.0)

one_more : (rho bound time : ℕ) (o : Option RateStep) (steps : List RateStep) → time ≤ bound → Holds o (IsStepAt rho time) → StepsUpTo bound steps
    → StepsUpTo bound (cons_option o steps)
one_more rho bound time None steps le here h = h
one_more rho bound time (Some step) steps le here h = (omega (arith, here.at), h)

pub steps_up_to : (rho least : ℕ) (all : List Event) (event : Event) (device : DeviceId) → AreEventsFrom rho least (all ++ event ∷ [])
    → StepsUpTo (amount event.time) (rate_steps all device)
steps_up_to rho least [] event device h = tt
steps_up_to rho least (e ∷ es) event device h = grind (arith, one_more, last_later, step_is, (steps_up_to rho (amount e.time) es event device h.3))

-- ---- what a history tells once one more event is added

-- ---- results

pub match_map : {X E : Type 0} (r : Result X E) (A A' : X → Type 0) (B B' : E → Type 0) → ((x : X) → A x → A' x) → ((y : E) → B y → B' y)
    → MatchResult r A B → MatchResult r A' B'
match_map (Ok x) A A' B B' f g h = f x h
match_map (Err y) A A' B B' f g h = g y h

-- ---- a list with one element set

pub set_same : {X : Type 0} (xs : List X) (i : ℕ) (x y : X) → slice_get (slice_set xs i x) i ≡ Some y → x ≡ y
set_same [] i x y at = absurd cc
set_same (z ∷ zs) zero x y at = cc
set_same (z ∷ zs) (suc i) x y at = set_same zs i x y at

-- ---- the ways

-- each way in the list is told
abbrev pub AreWaysTold : Network → List Event → List WayHistory → Type 0
AreWaysTold network all ways =
    (link : LinkId) (way : Way) (told : WayHistory) → slice_get ways (way_place link way) ≡ Some told → TellsWay network all link way told

way_same : (y way : Way) → is_way y way ≡ true → y ≡ way
way_same Up Up e = refl
way_same Up Down e = absurd (false≢true e)
way_same Down Up e = absurd (false≢true e)
way_same Down Down e = refl

places_same : (link other : LinkId) (way turned : Way) → way_place link way ≡ way_place other turned → (link.0 ≡ other.0) × (is_way way turned ≡ true)
places_same link other Up Up e = (omega arith, refl)
places_same link other Up Down e = absurd (omega arith)
places_same link other Down Up e = absurd (omega arith)
places_same link other Down Down e = (omega arith, refl)

pub own_way : (link : LinkId) (way : Way) → is_way_of link way link way ≡ true
own_way link way = rw (eq-eqb link.0 link.0 refl) (way_itself way)

pub ways_set : {network : Network} (before : List Event) {behind : List Event} {link : LinkId} {way : Way}
    (ways : List WayHistory) {new : WayHistory} → AreWaysTold network before ways
    → TellsWay network behind link way new → ((l : LinkId) (w : Way) (told : WayHistory)
    → is_way_of l w link way ≡ false → TellsWay network before l w told → TellsWay network behind l w told)
    → AreWaysTold network behind (slice_set ways (way_place link way) new)
ways_set {network} before {behind} {link} {way} ways {new} told here stays l w x at =
    elim (cases_Bool (is_way_of l w link way)) [
      | inl hit ↦
          let parts = and_parts (l.0 == link.0) (is_way w way) hit in
          let one = same_link l link (eqb-true l.0 link.0 parts.0) in
          let turned = way_same w way parts.1 in
          let at_own : slice_get (slice_set ways (way_place link way) new) (way_place link way) ≡ Some x =
          rw turned at (rw one at at) in
          rw one (rw turned (subst (TellsWay network behind link way) (set_same ways (way_place link way) new x at_own)
          here))
      | inr miss ↦
          let differ : way_place link way ≡ way_place l w → ⊥ = λ e.
          let same = places_same l link w way (sym e) in
          false≢true (sym miss ∙ rw (eq-eqb l.0 link.0 same.0) same.1) in
          stays l w x miss (told l w x (sym (set_other ways (way_place link way) (way_place l w) new differ) ∙ at))
    ]

-- a way that the event does not set
pub way_stays : {network : Network} {all : List Event} (event : Event) {link : LinkId} {way : Way}
    {told : WayHistory} → wire_set link way event.what ≡ None → hold_set link way event.what ≡ None
    → cut_set link way event.what ≡ None → TellsWay network all link way told
    → TellsWay network (all ++ event ∷ []) link way told
way_stays {network} {all} event {link} {way} no_wire no_hold no_cut h = record {
  delay = set_stays (wire_set link way) (wire_of network link) all event no_wire h.delay;
  hold = set_stays (hold_set link way) 0 all event no_hold h.hold;
  cut = set_stays (cut_set link way) false all event no_cut h.cut;
}

-- ---- the devices

abbrev pub AreDevicesTold : Network → List Event → List DeviceHistory → Type 0
AreDevicesTold network all devices = (device : DeviceId) (told : DeviceHistory) → slice_get devices device.0 ≡ Some told → TellsDevice network all device told

pub devices_set : {network : Network} (before : List Event) {behind : List Event} {device : DeviceId}
    (devices : List DeviceHistory) {new : DeviceHistory} → AreDevicesTold network before devices
    → TellsDevice network behind device new → ((d : DeviceId) (told : DeviceHistory) → (d.0 ≡ device.0 → ⊥)
    → TellsDevice network before d told → TellsDevice network behind d told)
    → AreDevicesTold network behind (slice_set devices device.0 new)
devices_set {network} before {behind} {device} devices {new} told here stays d x at =
    elim (cases_Bool (d.0 == device.0)) [
      | inl hit ↦
          let one = same_device d device (eqb-true d.0 device.0 hit) in
          let at_own = rw one at at in
          rw one (subst (TellsDevice network behind device) (set_same devices device.0 new x at_own) here)
      | inr miss ↦
          let differ : d.0 ≡ device.0 → ⊥ = λ e. false≢true (sym miss ∙ eq-eqb d.0 device.0 e) in
          stays d x differ (told d x (sym (set_other devices device.0 d.0 new (λ e. differ (sym e))) ∙ at))
    ]

-- the steps with that of one event more
pub steps_more : (all : List Event) (event : Event) (device : DeviceId) (o : Option RateStep) → step_by device (amount event.time) event.what ≡ o
    → rate_steps (all ++ event ∷ []) device ≡ rate_steps all device ++ cons_option o []
steps_more all event device o is =
    filter_map-append (λ e. step_by device (amount e.time) e.what) all (event ∷ [])
    ∙ ap (λ m. rate_steps all device ++ cons_option m []) is

append_none : {X : Type 0} (xs : List X) → xs ≡ xs ++ []
append_none [] = refl
append_none {X} (x ∷ xs) = ap (λ l. x ∷ l) (append_none xs)

none_of : (a b : Bool) → b ≡ false → (a || b) ≡ a
none_of a b miss = rw miss (or_none a)

module _ (network : Network) (all : List Event) (event : Event) (device : DeviceId) (t : ℕ) where
  -- whether one more event breaks the device by then
  broken_more : is_broken (scenario_under network (all ++ event ∷ [])) device t ≡
      (is_broken (scenario_under network all) device t || (nat_le (amount event.time) t && breaks_at device.0
      event.what))
  broken_more = grind (arith, nat_le, filter-append, list_any-append, or_none)

  -- whether one more event turns the device on then
  turned_more : is_turned_on_at (scenario_under network (all ++ event ∷ [])) device t ≡
      (is_turned_on_at (scenario_under network all) device t || (turns_on device event.what && amount event.time ==
      t))
  turned_more =
      let b = λ (e : Event). turns_on device e.what && amount e.time == t in
      list_any-append b all (event ∷ []) ∙ ap (λ x. list_any b all || x) (or_none (b event))

pub clock_stays : (all : List Event) (event : Event) (device : DeviceId) (clock : Segment) → step_by device (amount event.time) event.what ≡ None
    → clocks_after clock (rate_steps all device) ≡ clocks_after clock (rate_steps (all ++ event ∷ []) device)
clock_stays all event device clock none = ap (clocks_after clock) (append_none (rate_steps all device) ∙ sym (steps_more all event device None none))

module _ (network : Network) (all : List Event) (event : Event) (device : DeviceId) where
  pub broken_stays : (t : ℕ) → breaks_at device.0 event.what ≡ false
      → is_broken (scenario_under network (all ++ event ∷ [])) device t
      ≡ is_broken (scenario_under network all) device t
  broken_stays t none =
      broken_more network all event device t ∙ none_of _ _
      (and_right (nat_le (amount event.time) t) (breaks_at device.0 event.what) none)

  pub turned_stays : (t : ℕ) → turns_on device event.what ≡ false
      → is_turned_on_at (scenario_under network (all ++ event ∷ [])) device t
      ≡ is_turned_on_at (scenario_under network all) device t
  turned_stays t none =
      turned_more network all event device t ∙ none_of _ _ (rw none)

  -- a device that the event does not concern
  pub device_stays : {told : DeviceHistory} → step_by device (amount event.time) event.what ≡ None
      → breaks_at device.0 event.what ≡ false → turns_on device event.what ≡ false
      → TellsDevice network all device told → TellsDevice network (all ++ event ∷ []) device told
  device_stays no_step no_break no_turn h = record {
    fresh = h.fresh;
    clock = h.clock ∙ clock_stays all event device (fresh_segment (amount network.grain)) no_step;
    broken = λ t. broken_stays t no_break ∙ h.broken t;
    turned_on = λ t. turned_stays t no_turn ∙ h.turned_on t;
  }

-- ---- a break, and a turning on, is the first

none_any : (P : Event → Type 0) (b : Event → Bool) → ((e : Event) → b e ≡ true → P e) → (all : List Event) → (Any P all → ⊥) → list_any b all ≡ false
none_any P b tells [] none = refl
none_any P b tells (e ∷ es) none =
    let first = false_from_ne_true (b e) (λ hit. none (any_first P e es (tells e hit))) in
    rw first (none_any P b tells es (λ h. none (any_behind P e es h)))

none_filtered : (b p : Event → Bool) (all : List Event) → list_any b all ≡ false → list_any b (filter p all) ≡ false
none_filtered b p [] none = refl
none_filtered b p (e ∷ es) none =
    let parts = or_parts (b e) (list_any b es) none in
    elim (p e) as (λ q. list_any b (if q then e ∷ filter p es else filter p es) ≡ false) [
      | true ↦ rw parts.0 (none_filtered b p es parts.1)
      | false ↦ none_filtered b p es parts.1
    ]
  where
    or_parts : (x y : Bool) → (x || y) ≡ false → (x ≡ false) × (y ≡ false)
    or_parts true y miss = absurd (false≢true (sym miss))
    or_parts false y miss = (refl, miss)

module _ (network : Network) (all : List Event) (event : Event) (device : DeviceId) (t : ℕ)
    (within : IsWithinHypothesis network all event) where
  -- a break within the hypothesis is the first of the device
  pub broken_first : event.what ≡ events.Break device → is_broken
      (scenario_under network (all ++ event ∷ [])) device t ≡ nat_le (amount event.time) t
  broken_first what =
      let none = none_filtered (λ e. breaks_at device.0 e.what) (λ e. nat_le (amount e.time) t) all
      (none_any (Breaks device) (λ e. breaks_at device.0 e.what) (λ e hit. broken_by device e.what hit) all
      (λ known. within outside.SecondBreak
      (record { device = device; broken = device; breaks = what; is_broken = known }))) in
      let here : breaks_at device.0 event.what ≡ true = ap (breaks_at device.0) what ∙ eq-eqb device.0 device.0 refl in
      broken_more network all event device t
      ∙ ap (λ x. x || (nat_le (amount event.time) t && breaks_at device.0 event.what)) none
      ∙ ap (λ x. nat_le (amount event.time) t && x) here ∙ and_true (nat_le (amount event.time) t)
    where
      and_true : (b : Bool) → (b && true) ≡ b
      and_true true = refl
      and_true false = refl

  -- and so is its turning on
  pub turned_first : event.what ≡ events.On device → is_turned_on_at
      (scenario_under network (all ++ event ∷ [])) device t ≡ (amount event.time == t)
  turned_first what =
      let none = none_any (TurnsOn device) (λ e. turns_on device e.what && amount e.time == t)
      (λ e hit. on_by device e.what (let parts = and_parts (turns_on device e.what) (amount e.time == t) hit in
      parts.0)) all
      (λ known. within outside.NotOff (record { device = device; what = what; known = inr (inl known) })) in
      let here : turns_on device event.what ≡ true = ap (turns_on device) what ∙ eq-eqb device.0 device.0 refl in
      turned_more network all event device t
      ∙ ap (λ x. x || (turns_on device event.what && amount event.time == t)) none
      ∙ ap (λ x. x && amount event.time == t) here

-- ---- the events

pub begun_more : (all : List Event) (event : Event) → HaveBegun all → pos 0 ≤ℤ event.time.0 → HaveBegun (all ++ event ∷ [])
begun_more all event begun here = All-push (λ e. pos 0 ≤ℤ e.time.0) all event begun here

-- what a history needs in order to remember one event more
pub remembers_more : {network : Network} {all : List Event} {event : Event} {old : EventHistory} (new : EventHistory)
    → Remembers network all old → MayBefall network all event → pos 0 ≤ℤ event.time.0
    → length new.ways.items ≡ length old.ways.items → AreWaysTold network (all ++ event ∷ []) new.ways.items
    → length new.devices.items ≡ length old.devices.items
    → AreDevicesTold network (all ++ event ∷ []) new.devices.items → Remembers network (all ++ event ∷ []) new
remembers_more new h may begun many_ways ways many_devices devices = grind (arith, all_within, begun_more)

-- or to remember the same
pub remembers_same : {network : Network} {all : List Event} {old : EventHistory} (new : EventHistory)
    → Remembers network all old → length new.ways.items ≡ length old.ways.items
    → AreWaysTold network all new.ways.items → length new.devices.items ≡ length old.devices.items
    → AreDevicesTold network all new.devices.items → Remembers network all new
remembers_same new h many_ways ways many_devices devices = grind arith

-- ---- a slow rate at time 0 is within the hypothesis

rate_of : (d e : DeviceId) (r s : Ppb) → events.Rate d r ≡ events.Rate e s → r ≡ s
rate_of d e r s same = cc

module _ (network : Network) (event : Event) (device : DeviceId) (rate : Ppb) (begins : event.time.0 ≡ pos 0)
    (is : event.what ≡ events.Rate device rate) (slow : unsigned_abs rate.0 ≤ network.rho) where
  pub rate_within : IsWithinHypothesis network [] event
  rate_within outside.Order v = none_before v.front [] v.last v.order
  rate_within outside.Late v = omega (arith, ints)
  rate_within outside.Rate v = grind (arith, rate_of, unsigned_abs)
  rate_within outside.Wire v = let what = v.what in absurd cc
  rate_within outside.Hold v = let what = v.what in absurd cc
  rate_within outside.Channel v = let what = v.what in absurd cc
  rate_within outside.NotMaster v = let what = v.breaks in absurd cc
  rate_within outside.SecondBreak v = let what = v.breaks in absurd cc
  rate_within outside.TooFewMasters v = let what = v.breaks in absurd cc
  rate_within outside.NotBroken v = let what = v.what in absurd cc
  rate_within outside.NotOff v = absurd cc

-- ---- the clocks that events set read on

-- a reading that grew from 0 in a time of at most 2^60
bound_of : (rho grain r t zero_time d : ℕ) → t ≤ 2 ^ 60 → rho ≤ 1000000 → grain ≤ 2 ^ 20 → zero_time ≡ 0 → r ≤ d + t
    → 10 ^ 9 * d ≤ rho * t + 2 * grain * 10 ^ 9 → r ≤ 2 ^ 60 + 2 ^ 51
bound_of rho grain r t z d le slow fine is_zero near h =
    let most = mul-le-mul_right t slow in
    omega arith

diff_near : (a b : ℕ) → a ≤ abs_diff a b + b
diff_near a b = omega arith

same_times : (rho t s : ℕ) → s ≡ t → rho * s ≡ rho * t
same_times rho t s e = rw e refl

-- what a clock goes on by in one unit of time
step_of : (rho grain real seen : ℕ) → real ≡ 1 → rho ≤ 1000000 → grain ≤ 2 ^ 20 → 10 ^ 9 * abs_diff seen real ≤ rho * real + 2 * grain * 10 ^ 9 → seen < 2 ^ 32
step_of rho grain real seen one slow fine measured =
    let m : 10 ^ 9 * abs_diff seen 1 ≤ rho * 1 + 2 * grain * 10 ^ 9 = rw one at measured in
    omega arith

pub reads_on : AlwaysKeepsClockLaws fresh_segment stepped_segment segment_reading
    → AlwaysBeginsAtZero fresh_segment stepped_segment segment_reading → ClocksReadOn
reads_on laws begins network all device range within begun =
    let steps = rate_steps all device in
    let grain = amount network.grain in
    let low = range.grain.least in
    let high = range.grain.most in
    let some : 1 ≤ grain = omega (arith, ints) in
    let fine : grain ≤ 2 ^ 20 = omega (arith, ints) in
    let keeps = laws network.rho grain steps range.rho some
    (steps_history network.rho 0 steps (steps_from network.rho 0 all device (events_from all range within begun))) in
    record {
      begins = begins grain steps;
      never_falls = keeps.never_falls;
      step = λ t.
          let r = clock_reading network all device in
          let seen = step_of network.rho grain ((t + 1) - t) (r (t + 1) - r t) (omega arith) range.rho fine (keeps.drifts t (t + 1) (omega arith)) in
          omega arith;
      bound = λ t le.
          let r = clock_reading network all device in
          let drift = keeps.drifts 0 t (omega arith) in
          let zero_first = begins grain steps in
          let near = diff_near (r t - r 0) (t - 0) in
          let same = same_times network.rho t (t - 0) (omega arith) in
          bound_of network.rho grain (r t) t 0 (abs_diff (r t - r 0) (t - 0)) le range.rho fine refl (omega arith)
          (omega arith);
    }
