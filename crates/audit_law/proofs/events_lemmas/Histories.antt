-- What a history tells: of no event, with each kind of event added, and of what the events set.
use Rattle.std.proofs.Common
use Common.{if◌then◌else◌, ◌*◌, ◌++◌, ◌+◌, ◌<◌, ◌==◌, ◌∙◌, ◌∷◌, ◌≡◌, ◌≤ℤ◌, ◌≤◌, Bool, List, None, Option, Some, [], ap}
use Common.{arith, false, length, nat_le, pos, refl, subst, suc, sym, true, zero, ℕ}
use Rattle.std.proofs.lemmas.{Bool.{eq-eqb, false≢true}}
use Rattle.std.proofs.lemmas.{Option.{get_or_from_slice_get, slice_get-get_or, slice_get_within}}
use Rattle.std.specs.{List.{All, Sorted.IsNonDecreasingBy, cons_option}, Option.option_map_or}
use Rattle.std.specs.{Prelude.{option_map, slice_get, slice_index_or, slice_set}}
use Rattle.audit_law.proofs.events_lemmas.Clocks
use Clocks.{StepsFrom, are_clocks, clock_reads, clocks_more, clocks_up_to, last_is, set_more, set_stays, value_last}
use Rattle.audit_law.proofs.events_lemmas.Keeping
use Keeping.{AreDevicesTold, AreEventsFrom, AreWaysTold, begun_more, broken_first, broken_stays, clock_stays}
use Keeping.{device_stays, devices_set, events_from, own_way, remembers_more, steps_from, steps_more, steps_up_to}
use Keeping.{turned_first, turned_stays, way_stays, ways_set}
use Rattle.audit_law.specs.declared.events.{settings.{Setting.Setting, Settings.Settings}}
use Rattle.audit_law.specs.declared.events.history.{DeviceHistory.DeviceHistory, EventHistory.EventHistory}
use Rattle.audit_law.specs.declared.events.history.{WayHistory.WayHistory}
use Rattle.audit_law.specs.events.{Beginnings.{AreWaysOf, IsReadyFor, IsUntouched, IsUntouchedDevice, IsUntouchedWay}}
use Rattle.audit_law.specs.events.{Clocks.{AreClocks, clocks_after, clocks_reading}}
use Rattle.audit_law.specs.events.{Readings.{clock_reading, scenario_under}}
use Rattle.audit_law.specs.events.{Remembering.{MayBefall, Remembers, TellsDevice, TellsWay, way_place}}
use Rattle.audit_law.specs.events.{Settings.{IsSetBy, change_to, changes_by, value_at}}
use Rattle.drift_clock.specs.{RateSteps.RateStep, Readings.value_after}
use Rattle.drift_clock.specs.{Segment.{Segment, fresh_segment, stepped_segment}}
use Rattle.net_plan.specs.{Belonging.{HasLink, IsOfNetwork}, Ranges.IsInRange}
use Rattle.net_plan.specs.declared.{event.{Event.Event, What.What}, ids.{DeviceId.DeviceId, LinkId.LinkId}}
use Rattle.net_plan.specs.declared.{network.Network.Network, tables.{Link.Link, Way.{TheVariants.{Down, Up}, Way}}}
use Rattle.run_law.proofs.scenario.Devices.{all_within}
use Rattle.run_law.specs.scenario.{Hypothesis.{IsWithinHypothesis, breaks_at}, Rates.{rate_steps, step_by}}
use Rattle.run_law.specs.scenario.{Scenarios.{last_set, turns_on}}
use Rattle.run_law.specs.scenario.{Ways.{cut_set, hold_set, is_way_of, wire_of, wire_set}}
use Rattle.tte_units.{proofs.general_lemmas.{Lists.none_before, Naturals.unequal}}
use Rattle.tte_units.{specs.{Amount.amount, declared.{rates.Ppb.Ppb, units.Units.Units}}}
use Rattle.net_plan.specs.declared.event.What.TheVariants as events

-- ---- what each kind of event adds to a history

-- ---- what the event does not concern

module _ (network : Network) (all : List Event) (event : Event) (what : What) where
  pub no_devices : (devices : List DeviceHistory) → event.what ≡ what
      → ((d : DeviceId) → step_by d (amount event.time) what ≡ None) → ((d : DeviceId) → breaks_at d.0 what ≡ false)
      → ((d : DeviceId) → turns_on d what ≡ false) → AreDevicesTold network all devices
      → AreDevicesTold network (all ++ event ∷ []) devices
  no_devices devices is steps breaks turns told d x at =
      device_stays network all event d (ap (step_by d (amount event.time)) is ∙ steps d)
      (ap (breaks_at d.0) is ∙ breaks d)
      (ap (turns_on d) is ∙ turns d) (told d x at)

  pub no_ways : (ways : List WayHistory) → event.what ≡ what → ((l : LinkId) (w : Way) → wire_set l w what ≡ None)
      → ((l : LinkId) (w : Way) → hold_set l w what ≡ None) → ((l : LinkId) (w : Way) → cut_set l w what ≡ None)
      → AreWaysTold network all ways → AreWaysTold network (all ++ event ∷ []) ways
  no_ways ways is wires holds cuts told l w x at =
      way_stays event (ap (wire_set l w) is ∙ wires l w) (ap (hold_set l w) is ∙ holds l w)
      (ap (cut_set l w) is ∙ cuts l w)
      (told l w x at)

-- ---- a setting of a way

set_or_none : {X : Type 0} (b : Bool) (x : X) → b ≡ false → (if b then Some x else None) ≡ None
set_or_none true x miss = absurd (false≢true (sym miss))
set_or_none false x miss = refl

set_so : {X : Type 0} (b : Bool) (x : X) → b ≡ true → (if b then Some x else None) ≡ Some x
set_so true x hit = refl
set_so false x hit = absurd cc

pub delay_set : (network : Network) (all : List Event) (event : Event) (link : LinkId) (way : Way) (delay : Units) (place : ℕ)
    (ways : List WayHistory) (told : WayHistory) (new : Settings ℕ) → AreWaysTold network all ways → place ≡ way_place link way
    → slice_get ways place ≡ Some told → event.what ≡ events.Wire link way delay → new.initial ≡ told.delay.initial
    → new.changes.items ≡ told.delay.changes.items ++ change_to (amount event.time) (amount delay) ∷ []
    → AreWaysTold network (all ++ event ∷ []) (slice_set ways place (record { delay = new; hold = told.hold; cut = told.cut }))
delay_set network all event link way delay place ways told new are here at what first more =
    let new_way : WayHistory = record { delay = new; hold = told.hold; cut = told.cut } in
    let h = are link way told (rw here at at) in
    rw here (ways_set all ways are
    (record {
      delay = set_more (wire_set link way) (wire_of network link) all event (amount delay) new
          (ap (wire_set link way) what ∙ set_so (is_way_of link way link way) (amount delay) (own_way link way)) first more h.delay;
      hold = set_stays (hold_set link way) 0 all event (ap (hold_set link way) what) h.hold;
      cut = set_stays (cut_set link way) false all event (ap (cut_set link way) what) h.cut;
    })
    (λ l w x other h. way_stays event (ap (wire_set l w) what ∙ set_or_none (is_way_of l w link way) (amount delay)
    other)
    (ap (hold_set l w) what) (ap (cut_set l w) what) h))

pub hold_set_to : (network : Network) (all : List Event) (event : Event) (link : LinkId) (way : Way) (hold : Units) (place : ℕ)
    (ways : List WayHistory) (told : WayHistory) (new : Settings ℕ) → AreWaysTold network all ways → place ≡ way_place link way
    → slice_get ways place ≡ Some told → event.what ≡ events.Hold link way hold → new.initial ≡ told.hold.initial
    → new.changes.items ≡ told.hold.changes.items ++ change_to (amount event.time) (amount hold) ∷ []
    → AreWaysTold network (all ++ event ∷ []) (slice_set ways place (record { delay = told.delay; hold = new; cut = told.cut }))
hold_set_to network all event link way hold place ways told new are here at what first more =
    let new_way : WayHistory = record { delay = told.delay; hold = new; cut = told.cut } in
    let h = are link way told (rw here at at) in
    rw here (ways_set all ways are
    (record {
      delay = set_stays (wire_set link way) (wire_of network link) all event (ap (wire_set link way) what) h.delay;
      hold = set_more (hold_set link way) 0 all event (amount hold) new
          (ap (hold_set link way) what ∙ set_so (is_way_of link way link way) (amount hold) (own_way link way)) first more h.hold;
      cut = set_stays (cut_set link way) false all event (ap (cut_set link way) what) h.cut;
    })
    (λ l w x other h. way_stays event (ap (wire_set l w) what)
    (ap (hold_set l w) what ∙ set_or_none (is_way_of l w link way) (amount hold) other) (ap (cut_set l w) what) h))

-- the event of a cut, or of a heal
abbrev pub cut_event : Bool → LinkId → Way → What
cut_event cut link way = if cut then events.Cut link way else events.Heal link way

no_wire : (cut : Bool) (link l : LinkId) (way w : Way) → wire_set l w (cut_event cut link way) ≡ None
no_wire true link l way w = refl
no_wire false link l way w = refl

no_hold : (cut : Bool) (link l : LinkId) (way w : Way) → hold_set l w (cut_event cut link way) ≡ None
no_hold true link l way w = refl
no_hold false link l way w = refl

cut_own : (cut : Bool) (link : LinkId) (way : Way) → cut_set link way (cut_event cut link way) ≡ Some cut
cut_own true link way = set_so (is_way_of link way link way) true (own_way link way)
cut_own false link way = set_so (is_way_of link way link way) false (own_way link way)

cut_other : (cut : Bool) (link l : LinkId) (way w : Way) → is_way_of l w link way ≡ false → cut_set l w (cut_event cut link way) ≡ None
cut_other true link l way w other = set_or_none (is_way_of l w link way) true other
cut_other false link l way w other = set_or_none (is_way_of l w link way) false other

pub cut_no_step : (cut : Bool) (link : LinkId) (way : Way) (d : DeviceId) (time : ℕ) → step_by d time (cut_event cut link way) ≡ None
cut_no_step true link way d time = refl
cut_no_step false link way d time = refl

pub cut_no_break : (cut : Bool) (link : LinkId) (way : Way) (d : DeviceId) → breaks_at d.0 (cut_event cut link way) ≡ false
cut_no_break true link way d = refl
cut_no_break false link way d = refl

pub cut_no_turn : (cut : Bool) (link : LinkId) (way : Way) (d : DeviceId) → turns_on d (cut_event cut link way) ≡ false
cut_no_turn true link way d = refl
cut_no_turn false link way d = refl

pub cut_set_to : (network : Network) (all : List Event) (event : Event) (link : LinkId) (way : Way) (cut : Bool) (place : ℕ)
    (ways : List WayHistory) (told : WayHistory) (new : Settings Bool) → AreWaysTold network all ways → place ≡ way_place link way
    → slice_get ways place ≡ Some told → event.what ≡ cut_event cut link way → new.initial ≡ told.cut.initial
    → new.changes.items ≡ told.cut.changes.items ++ change_to (amount event.time) cut ∷ []
    → AreWaysTold network (all ++ event ∷ []) (slice_set ways place (record { delay = told.delay; hold = told.hold; cut = new }))
cut_set_to network all event link way cut place ways told new are here at what first more =
    let new_way : WayHistory = record { delay = told.delay; hold = told.hold; cut = new } in
    let h = are link way told (rw here at at) in
    rw here (ways_set all ways are
    (record {
      delay = set_stays (wire_set link way) (wire_of network link) all event
          (ap (wire_set link way) what ∙ no_wire cut link link way way) h.delay;
      hold = set_stays (hold_set link way) 0 all event (ap (hold_set link way) what ∙ no_hold cut link link way way)
          h.hold;
      cut = set_more (cut_set link way) false all event cut new (ap (cut_set link way) what ∙ cut_own cut link way)
          first more h.cut;
    })
    (λ l w x other h. way_stays event (ap (wire_set l w) what ∙ no_wire cut link l way w)
    (ap (hold_set l w) what ∙ no_hold cut link l way w) (ap (cut_set l w) what ∙ cut_other cut link l way w other) h))

-- ---- no setting

same_set : {V : Type 0} {setting : What → Option V} {initial : V} {all : List Event} {old : Settings V}
    (new : Settings V) → new.initial ≡ old.initial → new.changes.items ≡ old.changes.items
    → IsSetBy setting initial all old → IsSetBy setting initial all new
same_set new first same h = record { first = first ∙ h.first; changes = same ∙ h.changes }

-- the ways with one that says what it said
pub same_way : (network : Network) (all : List Event) (link : LinkId) (way : Way) (place : ℕ) (ways : List WayHistory) (told new : WayHistory)
    → AreWaysTold network all ways → place ≡ way_place link way → slice_get ways place ≡ Some told
    → new.delay.initial ≡ told.delay.initial → new.delay.changes.items ≡ told.delay.changes.items
    → new.hold.initial ≡ told.hold.initial → new.hold.changes.items ≡ told.hold.changes.items
    → new.cut.initial ≡ told.cut.initial → new.cut.changes.items ≡ told.cut.changes.items → AreWaysTold network all (slice_set ways place new)
same_way network all link way place ways told new are here at a b c d e f =
    let h = are link way told (rw here at at) in
    rw here (ways_set all ways are
    (record {
      delay = same_set new.delay a b h.delay;
      hold = same_set new.hold c d h.hold;
      cut = same_set new.cut e f h.cut;
    })
    (λ l w x other h. h))

-- ---- a rate

pub rate_set : (network : Network) (all : List Event) (event : Event) (device : DeviceId) (rate : Ppb)
    (devices : List DeviceHistory) (told : DeviceHistory) (new : Settings Segment) → AreDevicesTold network all devices
    → slice_get devices device.0 ≡ Some told → event.what ≡ events.Rate device rate
    → All (λ c. c.from ≤ amount event.time) told.clock.changes.items → new.initial ≡ told.clock.initial → new.changes.items ≡ told.clock.changes.items
    ++ change_to (amount event.time) (stepped_segment (value_at told.clock.initial told.clock.changes.items (amount event.time)) (amount event.time) rate.0)
    ∷ [] → AreDevicesTold network (all ++ event ∷ []) (slice_set devices device.0 (record { clock = new; broken = told.broken; turned_on = told.turned_on }))
rate_set network all event device rate devices told new are at what past first more =
    let new_device : DeviceHistory = record { clock = new; broken = told.broken; turned_on = told.turned_on } in
    let h = are device told at in
    let time = amount event.time in
    let fresh = fresh_segment (amount network.grain) in
    let steps = rate_steps all device in
    let step : RateStep = record { at = time; rate = rate.0 } in
    let before = told.clock.changes.items in
    let clock_is : value_at told.clock.initial before time ≡ value_after stepped_segment fresh steps =
    rw h.fresh (ap (λ l. value_at fresh l time) h.clock
    ∙ value_last time fresh steps (rw h.clock at past)) in
    devices_set all devices are
    (record {
      fresh = first ∙ h.fresh;
      clock = more
          ∙ ap (λ l. l ++ change_to time (stepped_segment (value_at told.clock.initial before time) time rate.0) ∷ [])
          h.clock
          ∙ ap (λ c. clocks_after fresh steps ++ change_to time (stepped_segment c time rate.0) ∷ []) clock_is
          ∙ sym (clocks_more fresh steps step)
          ∙ ap (clocks_after fresh) (sym (steps_more all event device (Some step)
          (ap (step_by device time) what ∙ set_so (device.0 == device.0) step (eq-eqb device.0 device.0 refl))));
      broken = λ t. broken_stays network all event device t (ap (breaks_at device.0) what) ∙ h.broken t;
      turned_on = λ t. turned_stays network all event device t (ap (turns_on device) what) ∙ h.turned_on t;
    })
    (λ d x other h. device_stays network all event d
    (ap (step_by d time) what ∙ set_or_none (d.0 == device.0) (let s : RateStep = record { at = time; rate = rate.0 } in s) (unequal d.0 device.0 other))
    (ap (breaks_at d.0) what) (ap (turns_on d) what) h)

-- the devices with one that says what it said
pub same_device : (network : Network) (all : List Event) (device : DeviceId) (devices : List DeviceHistory) (told : DeviceHistory)
    (new : Settings Segment) → AreDevicesTold network all devices → slice_get devices device.0 ≡ Some told
    → new.initial ≡ told.clock.initial → new.changes.items ≡ told.clock.changes.items
    → AreDevicesTold network all (slice_set devices device.0 (record { clock = new; broken = told.broken; turned_on = told.turned_on }))
same_device network all device devices told new are at first same =
    let h = are device told at in
    devices_set all devices {new = record { clock = new; broken = told.broken; turned_on = told.turned_on }} are
    (record { fresh = first ∙ h.fresh; clock = same ∙ h.clock; broken = h.broken; turned_on = h.turned_on })
    (λ d x other h. h)

-- ---- a break, and a turning on

module _ (network : Network) (all : List Event) (event : Event) (device : DeviceId) (time : ℕ)
    (devices : List DeviceHistory) (told : DeviceHistory) (are : AreDevicesTold network all devices)
    (at : slice_get devices device.0 ≡ Some told) where
  pub break_set : event.what ≡ events.Break device → amount event.time ≡ time → IsWithinHypothesis network all event
      → AreDevicesTold network (all ++ event ∷ [])
      (slice_set devices device.0 (record { clock = told.clock; broken = Some time; turned_on = told.turned_on }))
  break_set what when within =
      let h = are device told at in
      devices_set all devices
      {new = record { clock = told.clock; broken = Some time; turned_on = told.turned_on }} are
      (record {
        fresh = h.fresh;
        clock = h.clock ∙ clock_stays all event device (fresh_segment (amount network.grain))
            (ap (step_by device (amount event.time)) what);
        broken = λ t. broken_first network all event device t within what ∙ ap (λ n. nat_le n t) when;
        turned_on = λ t. turned_stays network all event device t (ap (turns_on device) what) ∙ h.turned_on t;
      })
      (λ d x other h. device_stays network all event d (ap (step_by d (amount event.time)) what)
      (ap (breaks_at d.0) what ∙ unequal device.0 d.0 (λ e. other (sym e))) (ap (turns_on d) what) h)

  pub turn_set : event.what ≡ events.On device → amount event.time ≡ time → IsWithinHypothesis network all event
      → AreDevicesTold network (all ++ event ∷ [])
      (slice_set devices device.0 (record { clock = told.clock; broken = told.broken; turned_on = Some time }))
  turn_set what when within =
      let h = are device told at in
      devices_set all devices
      {new = record { clock = told.clock; broken = told.broken; turned_on = Some time }} are
      (record {
        fresh = h.fresh;
        clock = h.clock ∙ clock_stays all event device (fresh_segment (amount network.grain))
            (ap (step_by device (amount event.time)) what);
        broken = λ t. broken_stays network all event device t (ap (breaks_at device.0) what) ∙ h.broken t;
        turned_on = λ t. turned_first network all event device t within what ∙ ap (λ n. n == t) when;
      })
      (λ d x other h. device_stays network all event d (ap (step_by d (amount event.time)) what)
      (ap (breaks_at d.0) what)
      (ap (turns_on d) what ∙ unequal d.0 device.0 other) h)

-- ---- what concerns no way and no device

pub nothing_set : {network : Network} {all : List Event} {event : Event} (what : What) {history : EventHistory}
    → Remembers network all history → MayBefall network all event → pos 0 ≤ℤ event.time.0 → event.what ≡ what
    → ((l : LinkId) (w : Way) → wire_set l w what ≡ None) → ((l : LinkId) (w : Way) → hold_set l w what ≡ None)
    → ((l : LinkId) (w : Way) → cut_set l w what ≡ None)
    → ((d : DeviceId) → step_by d (amount event.time) what ≡ None) → ((d : DeviceId) → breaks_at d.0 what ≡ false)
    → ((d : DeviceId) → turns_on d what ≡ false) → Remembers network (all ++ event ∷ []) history
nothing_set {network} {all} {event} what {history} h may begun is wires holds cuts steps breaks turns =
    remembers_more history h may begun refl
    (no_ways network all event what history.ways.items is wires holds cuts h.ways) refl
    (no_devices network all event what history.devices.items is steps breaks turns h.devices)

-- ---- what a history tells is what the events set

-- ---- the changes are in the order of time

more_later : {V : Type 0} (least time : ℕ) (m : Option V) (cs : List (Setting V)) → least ≤ time → All (λ c. time ≤ c.from) cs
    → All (λ c. least ≤ c.from) (cons_option (option_map (change_to time) m) cs)
more_later least time None cs le h k d lt = let behind = h k d lt in omega arith
more_later least time (Some v) cs le h zero d lt = le
more_later least time (Some v) cs le h (suc k) d lt = let behind = h k d (omega arith) in omega arith

changes_later : {V : Type 0} (rho least : ℕ) (setting : What → Option V) (all : List Event) → AreEventsFrom rho least all
    → All (λ c. least ≤ c.from) (changes_by setting all)
changes_later rho least setting [] h k d lt = absurd (omega arith)
changes_later rho least setting (e ∷ es) h k d lt =
    more_later least (amount e.time) (setting e.what) (changes_by setting es) h.0 (changes_later rho (amount e.time) setting es h.3) k d lt

more_sorted : {V : Type 0} (time : ℕ) (m : Option V) (cs : List (Setting V)) → All (λ c. time ≤ c.from) cs → IsNonDecreasingBy (λ c. c.from) cs
    → IsNonDecreasingBy (λ c. c.from) (cons_option (option_map (change_to time) m) cs)
more_sorted time None cs later sorted i j d le lt = sorted i j d le lt
more_sorted time (Some v) cs later sorted zero zero d le lt = omega arith
more_sorted time (Some v) cs later sorted zero (suc j) d le lt = later j d (omega arith)
more_sorted time (Some v) cs later sorted (suc i) zero d le lt = absurd (omega arith)
more_sorted time (Some v) cs later sorted (suc i) (suc j) d le lt = sorted i j d (omega arith) (omega arith)

changes_sorted : {V : Type 0} (rho least : ℕ) (setting : What → Option V) (all : List Event) → AreEventsFrom rho least all
    → IsNonDecreasingBy (λ c. c.from) (changes_by setting all)
changes_sorted rho least setting [] h i j d le lt = absurd (omega arith)
changes_sorted rho least setting (e ∷ es) h i j d le lt =
    more_sorted (amount e.time) (setting e.what) (changes_by setting es) (changes_later rho (amount e.time) setting es h.3)
    (changes_sorted rho (amount e.time) setting es h.3) i j d le lt

-- ---- a setting

-- what is looked up in the changes is what the events set last
pub looked_up : {V : Type 0} {network : Network} {all : List Event} {history : EventHistory}
    {setting : What → Option V} {initial : V} {settings : Settings V} (time : ℕ) (result : V)
    → Remembers network all history → IsSetBy setting initial all settings
    → (IsNonDecreasingBy (λ c. c.from) settings.changes.items
    → result ≡ value_at settings.initial settings.changes.items time)
    → result ≡ last_set (scenario_under network all) setting initial time
looked_up {V} {network} {all} {setting} {initial} {settings} time result h told found =
    let order = changes_sorted network.rho 0 setting all (events_from all h.range h.within h.begun) in
    found (rw told.changes order)
    ∙ ap (λ v. value_at v settings.changes.items time) told.first
    ∙ ap (λ l. value_at initial l time) told.changes
    ∙ sym (last_is setting initial time all)

-- ---- places

pub has_place : (network : Network) (link : LinkId) (way : Way) → HasLink network link → way_place link way < 2 * length network.link
has_place network link Up has = omega arith
has_place network link Down has = omega arith

pub cut_has : (network : Network) (cut : Bool) (link : LinkId) (way : Way) → IsOfNetwork network (cut_event cut link way) → HasLink network link
cut_has network true link way h = h
cut_has network false link way h = h

-- ---- the clocks

module _ (network : Network) (all : List Event) (history : EventHistory) (device : DeviceId) where
  pub steps_of : Remembers network all history → StepsFrom network.rho 0 (rate_steps all device)
  steps_of h = steps_from network.rho 0 all device (events_from all h.range h.within h.begun)

  -- the clocks of a device that is told
  pub told_clocks : {told : DeviceHistory} → Remembers network all history → TellsDevice network all device told
      → AreClocks told.clock.initial told.clock.changes.items
  told_clocks {told} h tells =
      rw tells.fresh (rw tells.clock (are_clocks network.rho 0 (fresh_segment (amount network.grain))
      (rate_steps all device) refl (steps_of h)))

  -- they read what the clock of the scenario reads
  pub told_reads : {told : DeviceHistory} (time : ℕ) → Remembers network all history
      → TellsDevice network all device told → clocks_reading told.clock.initial told.clock.changes.items time
      ≡ clock_reading network all device time
  told_reads {told} time h tells =
      rw tells.fresh
      (ap (λ l. clocks_reading (fresh_segment (amount network.grain)) l time) tells.clock
      ∙ clock_reads network.rho 0 time (fresh_segment (amount network.grain)) (rate_steps all device) (steps_of h))

-- ---- a device that is ready for a step

pub ready_at : (devices : List DeviceHistory) (place time : ℕ) (told : DeviceHistory) → place < length devices
    → told ≡ slice_index_or devices place told → All (IsReadyFor time) devices → IsReadyFor time told
ready_at devices place time told within is all = subst (IsReadyFor time) (sym is) (all place told within)

-- before an event that may befall the network, each device is ready for a step at its time
pub devices_ready : {network : Network} {all : List Event} {history : EventHistory} {event : Event}
    → Remembers network all history → MayBefall network all event → pos 0 ≤ℤ event.time.0
    → All (IsReadyFor (amount event.time)) history.devices.items
devices_ready {network} {all} {history} {event} h may begun k d lt =
    let items = history.devices.items in
    let device : DeviceId = record { 0 = k } in
    let told = slice_index_or items k d in
    let tells = h.devices device told (slice_get-get_or items k d lt) in
    let fresh = fresh_segment (amount network.grain) in
    let from = events_from (all ++ event ∷ []) h.range (all_within network all event h.within may.within)
    (begun_more all event h.begun begun) in
    record {
      clocks = told_clocks network all history device h tells;
      later = rw tells.clock (clocks_up_to (amount event.time) fresh (rate_steps all device)
          (steps_up_to network.rho 0 all event device from));
    }

-- ---- a history of no event

-- ---- ways

-- the ways of one link more
pub two_more : (links : List Link) (ways : List WayHistory) (link : Link) {up down : WayHistory}
    → AreWaysOf links ways → IsUntouchedWay (amount link.wire) up → IsUntouchedWay (amount link.wire) down
    → AreWaysOf (links ++ link ∷ []) ((ways ++ up ∷ []) ++ down ∷ [])
two_more [] [] link h a b = (a, b, tt)
two_more [] (w ∷ ways) link h a b = absurd h
two_more (l ∷ links) [] link h a b = absurd h
two_more (l ∷ links) (w ∷ []) link h a b = absurd h
two_more (l ∷ links) (w ∷ v ∷ ways) link h a b = (h.0, h.1, two_more links ways link h.2 a b)

pub ways_counted : (links : List Link) (ways : List WayHistory) → AreWaysOf links ways → length ways ≡ 2 * length links
ways_counted [] [] h = refl
ways_counted [] (w ∷ ways) h = absurd h
ways_counted (l ∷ links) [] h = absurd h
ways_counted (l ∷ links) (w ∷ []) h = absurd h
ways_counted (l ∷ links) (w ∷ v ∷ ways) h = let e = ways_counted links ways h.2 in omega arith

-- the way of a link at its place
way_there : (links : List Link) (ways : List WayHistory) (n : ℕ) (way : Way) (told : WayHistory) → AreWaysOf links ways
    → slice_get ways (way_place (let l : LinkId = record { 0 = n } in l) way) ≡ Some told
    → IsUntouchedWay (option_map_or (λ l. amount l.wire) (slice_get links n) 0) told
way_there [] [] n way told h at = absurd cc
way_there [] (w ∷ ways) n way told h at = absurd h
way_there (l ∷ links) [] n way told h at = absurd h
way_there (l ∷ links) (w ∷ []) n way told h at = absurd h
way_there (l ∷ links) (u ∷ d ∷ ways) zero Up told h at = grind arith
way_there (l ∷ links) (u ∷ d ∷ ways) zero Down told h at = grind arith
way_there (l ∷ links) (u ∷ d ∷ ways) (suc n) Up told h at =
    let below : 2 * suc n ≡ suc (suc (2 * n)) = omega arith in
    way_there links ways n Up told h.2 (rw below at at)
way_there (l ∷ links) (u ∷ d ∷ ways) (suc n) Down told h at =
    let below : 2 * suc n + 1 ≡ suc (suc (2 * n + 1)) = omega arith in
    way_there links ways n Down told h.2 (rw below at at)

untouched_set : {V : Type 0} (setting : What → Option V) {initial : V} {settings : Settings V}
    → IsUntouched initial settings → IsSetBy setting initial [] settings
untouched_set setting h = record { first = h.first; changes = h.none }

pub untouched_tells : (network : Network) (ways : List WayHistory) → AreWaysOf network.link ways
    → (link : LinkId) (way : Way) (told : WayHistory) → slice_get ways (way_place link way) ≡ Some told → TellsWay network [] link way told
untouched_tells network ways are link way told at =
    let h = way_there network.link ways link.0 way told are at in
    record {
      delay = untouched_set (wire_set link way) h.delay;
      hold = untouched_set (hold_set link way) h.hold;
      cut = untouched_set (cut_set link way) h.cut;
    }

-- ---- devices

pub untouched_device : (network : Network) (device : DeviceId) {told : DeviceHistory}
    → IsUntouchedDevice (amount network.grain) told → TellsDevice network [] device told
untouched_device network device h = grind arith

pub all_untouched : (network : Network) (devices : List DeviceHistory) → All (IsUntouchedDevice (amount network.grain)) devices
    → (device : DeviceId) (told : DeviceHistory) → slice_get devices device.0 ≡ Some told → TellsDevice network [] device told
all_untouched network devices all device told at = grind (arith, untouched_device, get_or_from_slice_get, slice_get_within)

pub remembers_none : {network : Network} (history : EventHistory) → IsInRange network
    → AreWaysOf network.link history.ways.items → length history.devices.items ≡ length network.device
    → All (IsUntouchedDevice (amount network.grain)) history.devices.items → Remembers network [] history
remembers_none {network} history range ways count devices = record {
  range = range;
  within = λ before behind event same. absurd (none_before before behind event same);
  begun = λ k d lt. absurd (omega arith);
  ways_count = ways_counted network.link history.ways.items ways;
  ways = untouched_tells network history.ways.items ways;
  devices_count = count;
  devices = all_untouched network history.devices.items devices;
}
