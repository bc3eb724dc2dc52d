-- The local clocks of devices, as a world shows them, are those of the records.
use Rattle.std.{proofs.Common.arith, specs.{List.{All, slice_get}, Option.option_map}}
use Rattle.drift_clock.specs.Readings.{value_after}
use Rattle.drift_world.proofs.{Agreements.{all_come, reads_value}, EventRuns.none_coming}
use Rattle.drift_world.proofs.Words
use Words.{if◌then◌else◌, ◌++◌, ◌+◌, ◌<◌, ◌^◌, ◌∙◌, ◌∷◌, ◌≡◌, ◌≤◌, AreWays, AtPort, Bool, DeviceId, DeviceState, Down}
use Words.{Happening, IfSome, IsBefore, IsComplete, IsDue, IsHeld, IsIn, IsLocalClockBefore, IsOf, IsScenarioRun, Kept}
use Words.{LinkId, List, Meaning, Network, Node, Note, Option, RateStep, Scenario, Shows, Some, Stands, Units, Up, Way}
use Words.{WayState, World, [], amount, ap, append-nil, breaks_at, chain, false, filter, happening, happenings, inl}
use Words.{inr, ints, is_broken, is_cut, keeps, le-leb, length, list_any, local_shown, map, nat_le, never_self, note_of}
use Words.{numbered_in, place_of, rate_steps, reading_of, refl, scenario, slice_get-map, subst, suc, sym, time_of, true}
use Words.{way_as, way_from, way_now, world_of, ℕ, ℤ}
use Rattle.drift_world.specs.{Locals.{AreSmall, HasCome, IsLocalClock, IsLocalValue}, Running.clock_of}
use Rattle.drift_world.specs.{declared.state.State.State}
use Rattle.net_plan.specs.declared.event.Event.{Event}
use Rattle.run_law.{proofs.runs.Places.either_way}
use Rattle.run_law.specs.{device.States.{adjustment_after, adjustment_before, state_after, state_before}}
use Rattle.run_law.specs.{records.Happenings.up_to}
use Rattle.sync_state.specs.correction.Deviation.{IsSmall}
use Rattle.world_law.{specs.world.World.{HaveBefallen, IsKept}}
use Rattle.world_law.proofs.{devices.Standing.{IsWorked, all_past, all_up_to, held_shows}}
use Rattle.world_law.proofs.{giving.GivenParts.{no_later_breaks, some_same}, runs.Worlds.length_is}
use Rattle.world_state.specs.{Leaving.{departed, departure_in}, declared.kept.Kept.TheVariants.{Out, Sound}}
use Rattle.sync_state.specs.declared.state.State.TheVariants as states

-- ---- what the parts of a state show of a scenario

pub shows_of : {C M : Type 0} {reading : C → ℕ → ℕ} {stands : Meaning (Kept M)}
    {s : Scenario} {network : Network} (state : State C M) {notes : List Note}
    → Stands reading stands s (world_of network state) notes → IsOf reading s network state
shows_of state old = record { same = old.same; clocks = old.clocks; broken = old.broken; ways = old.ways }

module _ (s : Scenario) (now : ℕ) (ups downs : List WayState) (link : LinkId) where
  way_is : (up : Way) (ways : List WayState) {way : WayState}
      → slice_get (map way_as ways) link.0 ≡ Some (way_now s now link up) → slice_get ways link.0 ≡ Some way
      → way_as way ≡ way_now s now link up
  way_is up ways is found = some_same _ _ _ (slice_get-map way_as ways link.0 ∙ ap (option_map way_as) found) is

  -- the way on which a device sends is as the scenario has it
  pub way_by : {way : WayState} (down : Bool) → AreWays s now (map way_as ups) (map way_as downs)
      → link.0 < length s.network.link → slice_get (if down then downs else ups) link.0 ≡ Some way
      → way_as way ≡ way_now s now link (if down then Down else Up)
  way_by {way} true are lt found = way_is Down downs (are.down link lt) found
  way_by {way} false are lt found = way_is Up ups (are.up link lt) found

-- the record of what leaves
pub departure_is : (s : Scenario) (now : ℕ) (e : AtPort) {network : Network} {reading : ℕ} {cut : Bool} → network ≡ s.network
    → is_broken s e.device now ≡ false → reading ≡ s.reading e.device now → cut ≡ is_cut s e.link (way_from s.network e.device e.link) now
    → Some (departed network reading cut e) ≡ departure_in s now e
departure_is s now e same sound read is = grind (arith, is_cut, way_from)

-- ---- the values that local clocks show, where the machines' adjustments are small

-- the machine of a sound device has a small adjustment
small_kept : {M : Type 0} (stands : Meaning M) → AreSmall stands → (kept : Kept M) (network : Network)
    (device : DeviceId) (node : Node) → keeps stands kept network device node → node.broken ≡ false → IsSmall node.standing.adjustment.0
small_kept stands small (Sound machine) network device node is sound = small machine network device node is.0
small_kept stands small (Out state adjustment) network device node is sound = let no = sym is.0 ∙ sound in absurd cc

-- a sum of a reading of a run and a small adjustment is a local value
shown_small : (broken : Bool) (state : DeviceState) (reading : ℕ) (adjustment : Units) → reading ≤ 2 ^ 60 + 2 ^ 51
    → (broken ≡ false → IsSmall adjustment.0) → IfSome (local_shown broken state reading adjustment) IsLocalValue
shown_small true state reading adjustment low small = tt
shown_small false states.Synchronised reading adjustment low small = grind (arith, ints)
shown_small false other reading adjustment low small = tt

-- what is kept of a device stands for a node of it, with a small adjustment unless it is broken
small_held : {M : Type 0} (stands : Meaning M) → AreSmall stands
    → {s : Scenario} {hs coming : List Happening} {frontier : List ℕ} {now : ℕ} {device : DeviceId}
    {kept : Kept M} → HaveBefallen s frontier now → IsHeld (keeps stands) s hs coming frontier now device kept
    → (node : Node) × keeps stands kept s.network device node
    × (is_broken s device now ≡ false → IsSmall node.standing.adjustment.0)
small_held stands small befallen (inl k) = grind (arith, small_kept, no_later_breaks)
small_held stands small befallen (inr k) =
    (k.node, k.is, λ sound. (let no = sym k.broken ∙ sound in absurd cc))

pub local_value : {C M : Type 0} {reading : C → ℕ → ℕ} {stands : Meaning M}
    → AreSmall stands → {s : Scenario} {own : Network} {state : State C M} {notes : List Note} {device : DeviceId}
    {t : ℕ} {shown : Option ℤ} → Stands reading (keeps stands) s (world_of own state) notes
    → device.0 < length own.device → t ≤ 2 ^ 60 → (shows : Shows reading stands state device t shown)
    → reading shows.clock t ≡ s.reading device t → IfSome shown IsLocalValue
local_value {reading} {stands} small {s} {state} {notes} {device} {t} old lt limit shows reads =
    let now = state.time in
    let there : device.0 < length s.network.device = rw old.same at lt in
    let held = old.devices device there in
    let same = some_same held.0 shows.kept _ held.1 shows.kept_is in
    let node = small_held stands small old.befallen held.2 in
    let is = shows.is s.network node.0 (rw (sym same) node.1) in
    let broken = some_same _ _ _ (old.broken device there) shows.broken_is in
    let low = (old.steady device).low t limit in
    rw is (shown_small shows.broken node.0.standing.state (reading shows.clock t) node.0.standing.adjustment
    (rw reads low) (λ sound. node.2 (broken ∙ sound)))

-- what the clock of a device reads at a time up to which the records are all of the run
pub complete_reads : {C M : Type 0} {fresh : ℕ → C} {after_step : C → ℕ → ℤ → C} {reading : C → ℕ → ℕ}
    {stands : Meaning M} {own : Network} {state : State C M} {t : ℕ}
    {events : List Event} {notes : List Note} {device : DeviceId} {shown : Option ℤ} → device.0 < length own.device
    → IsComplete fresh after_step reading stands own (world_of own state) t events notes
    → (shows : Shows reading stands state device t shown)
    → reading shows.clock t ≡ reading_of fresh after_step reading own events device t
complete_reads {fresh} {after_step} {reading} {own} {t} {events} {device} lt complete shows =
    let clock = some_same _ _ _ shows.clock_is (complete.is.clocks device lt) in
    rw clock (sym (reads_value fresh after_step reading own events device t complete.past))

-- what it reads at the present time
pub now_reads : {C M : Type 0} {reading : C → ℕ → ℕ} {stands : Meaning M} {s : Scenario}
    {own : Network} {state : State C M} {notes : List Note} {device : DeviceId} {t : ℕ} {shown : Option ℤ}
    → Stands reading (keeps stands) s (world_of own state) notes → device.0 < length own.device → t ≡ state.time
    → (shows : Shows reading stands state device t shown) → reading shows.clock t ≡ s.reading device t
now_reads {reading} {s} {device} {t} old lt at shows =
    let there : device.0 < length s.network.device = rw old.same at lt in
    let own_clock = old.clocks device there in
    let clock = some_same _ _ _ own_clock.1 shows.clock_is in
    rw (sym clock) (sym (own_clock.2 t (omega arith)))

-- ---- the local clock of a device, as a world shows it, is that of the records: what has been up to a time

-- all events have befallen up to then
all_befallen : (t : ℕ) (events : List Event) → ((e : Event) → IsIn e events → amount e.time ≤ t)
    → filter (λ e. nat_le (amount e.time) t) events ≡ events
all_befallen t [] past = refl
all_befallen t (e ∷ events) past = grind (arith, filter, nat_le, amount, le-leb, (all_befallen t events (λ d i. past d (inr i))))

-- so no device breaks between then and a later time
still_broken : (s : Scenario) (device : DeviceId) (t now : ℕ) → t ≤ now → ((e : Event) → IsIn e s.events → amount e.time ≤ t)
    → is_broken s device now ≡ is_broken s device t
still_broken s device t now le past =
    ap (list_any (λ e. breaks_at device.0 e.what))
    (all_befallen now s.events (λ e i. (let at = past e i in omega arith)) ∙ sym (all_befallen t s.events past))

-- the records of a run up to a time are no later
no_later : {s : Scenario} (t : ℕ) (notes : List Note) → IsScenarioRun s ((t + 1) ∷ []) notes → (h : Happening)
    → IsIn h (happenings s.network notes) → time_of h ≤ t
no_later t notes run h i = elim (run.within h i) [ inl lt ↦ omega arith | inr bad ↦ absurd bad.1 ]

-- ---- nothing is to come

no_first : {M : Type 0} (coming : List M) → ((z : M) (rest : List M) → coming ≡ z ∷ rest → ⊥) → coming ≡ []
no_first [] none = refl
no_first (z ∷ rest) none = absurd (none z rest refl)

module _ {C M : Type 0} {reading : C → ℕ → ℕ} {stands : Meaning M} {s : Scenario} {world : World C M} {notes : List Note}
    (old : Stands reading stands s world notes) (t : ℕ) (run : IsScenarioRun s ((t + 1) ∷ []) notes) where
  -- where it is at the time still, what is to come would be a record of the run
  none_now : world.now ≡ t → world.settled ≡ []
  none_now at = no_first world.settled (λ z rest same.
      let hs = happenings s.network notes in
      let there : IsIn z world.settled = rw same (inl refl) in
      let first = rw (append-nil hs) at (old.are.founded [] rest z same).1 in
      let y = happening s.network hs (note_of notes z) in
      let place : place_of y ≡ place_of z = ap place_of (sym first.same) in
      let due : IsDue s hs y =
      record { number = rw (length_is s notes); same = refl; begun = first.begun; cause = first.cause } in
      let behind = old.are.after z there in
      let of_now = old.are.of_now z there in
      let before : (h : Happening) → IsIn h hs → IsBefore (place_of h) (place_of y) = λ h i.
      subst (λ p. IsBefore (place_of h) p) (sym place)
      (let marked = old.run.within h i in elim (either_way (place_of h) (place_of z)) [
        | inl lt ↦ lt
        | inr (inl e) ↦ absurd (behind (rw e at marked))
        | inr (inr gt) ↦ absurd (behind (chain (place_of z) (place_of h) old.frontier gt marked))
      ]) in
      let other = run.full hs [] y (sym (append-nil hs)) before (λ h none. absurd none) due (inl (omega arith)) in
      behind (rw (other.2 ∙ place) at (old.run.within other.0 other.1)))

  none_left : HasCome world (happenings s.network notes) t → world.settled ≡ []
  none_left (inl past) = none_coming old past.1
  none_left (inr here) = none_now here.0

  -- what follows events of the instant is settled
  worked : HasCome world (happenings s.network notes) t → IsWorked (happenings s.network notes) old.frontier world.now
  worked (inl past) number h is =
      let le = no_later t notes run h (numbered_in (happenings s.network notes) number h is.there) in
      let at = is.same_time in
      let lt = past.0 in
      absurd (omega arith)
  worked (inr here) number h is =
      let by = here.1 in
      rw here.0 (chain (t ∷ 2 ∷ []) (place_of by.0) old.frontier by.2 (old.run.within by.0 by.1))

  come : HasCome world (happenings s.network notes) t → t ≤ world.now
  come (inl past) = let lt = past.0 in omega arith
  come (inr here) = let at = here.0 in omega arith

-- ---- the clock

-- a clock's last step is none later than the steps were
stepped_up : {C : Type 0} (after_step : C → ℕ → ℤ → C) (last_step : C → ℕ) → ((c : C) (t : ℕ) (r : ℤ) → last_step (after_step c t r) ≤ t)
    → (t : ℕ) (clock : C) (steps : List RateStep) → last_step clock ≤ t → All (λ x. x.at ≤ t) steps → last_step (value_after after_step clock steps) ≤ t
stepped_up after_step last_step by t clock [] first all = first
stepped_up after_step last_step by t clock (x ∷ steps) first all =
    let here = all 0 x (omega arith) in
    let last = by clock x.at x.rate in
    stepped_up after_step last_step by t (after_step clock x.at x.rate) steps (omega arith)
    (λ k d lt. all (suc k) d (omega arith))

pub clock_stepped : {C : Type 0} (fresh : ℕ → C) (after_step : C → ℕ → ℤ → C) (last_step : C → ℕ) → ((g : ℕ) → last_step (fresh g) ≡ 0)
    → ((c : C) (t : ℕ) (r : ℤ) → last_step (after_step c t r) ≤ t) → (network : Network) (events : List Event) (device : DeviceId) (t : ℕ)
    → ((e : Event) → IsIn e events → amount e.time ≤ t) → last_step (clock_of fresh after_step network events device) ≤ t
clock_stepped fresh after_step last_step begins by network events device t past =
    let first = begins (amount network.grain) in
    stepped_up after_step last_step by t (fresh (amount network.grain)) (rate_steps events device) (omega arith)
    (all_come events device t past)

-- ---- what is shown

shown_is : (s : Scenario) (hs : List Happening) (device : DeviceId) (t : ℕ) (broken : Bool) {state : DeviceState} {x : ℕ} {a : Units}
    → is_broken s device t ≡ broken → state_after s (up_to t hs) device ≡ state → x ≡ s.reading device t → a ≡ adjustment_after s (up_to t hs) device
    → IsLocalClock s hs device t (local_shown broken state x a)
shown_is s hs device t true broken in_state reads adjusts = grind arith
shown_is s hs device t false {state = states.Synchronised} broken in_state reads adjusts = grind arith
shown_is s hs device t false {state = other} broken in_state reads adjusts =
    λ step. (cc)

pub local_is : {C M : Type 0} {fresh : ℕ → C} {after_step : C → ℕ → ℤ → C} {reading : C → ℕ → ℕ}
    {stands : Meaning M} {own : Network} {network : Network} {state : State C M} {t : ℕ}
    {events : List Event} {notes : List Note} {device : DeviceId} {shown : Option ℤ} → device.0 < length own.device
    → IsComplete fresh after_step reading stands network (world_of own state) t events notes
    → Shows reading stands state device t shown → IsLocalClock
    (scenario network (reading_of fresh after_step reading network events) events)
    (happenings network notes) device t shown
local_is {fresh} {after_step} {reading} {stands} {own} {network} {state} {t} {events} {notes} {device} lt complete shows =
    let s = scenario network (reading_of fresh after_step reading network events) events in
    let world = world_of own state in
    let hs = happenings network notes in
    let old = complete.is.is in
    let now = world.now in
    let there : device.0 < length network.device = rw old.same at lt in
    let le = come old t complete.all complete.come in
    let held = old.devices device there in
    let empty = none_left old t complete.all complete.come in
    let at = held_shows (keeps stands) s hs world.settled old.frontier now device held.0 held.2
    (worked old t complete.all complete.come)
    (all_past reading (keeps stands) s world notes old) old.befallen in
    let all : hs ++ world.settled ≡ hs = rw empty (append-nil hs) in
    let past = no_later t notes complete.all in
    let same : up_to now (hs ++ world.settled) ≡ up_to t hs =
    ap (up_to now) all ∙ all_up_to now hs (λ h i. (let was = past h i in omega arith)) ∙ sym (all_up_to t hs past) in
    let node = at.0 in
    let machine = some_same held.0 shows.kept _ held.1 shows.kept_is in
    let is = shows.is network node (rw (sym machine) at.1) in
    let broken =
    sym (still_broken s device t now le complete.past) ∙ some_same _ _ _ (old.broken device there) shows.broken_is in
    let clock = some_same _ _ _ shows.clock_is (complete.is.clocks device there) in
    let reads : reading shows.clock t ≡ s.reading device t =
    rw clock (sym (reads_value fresh after_step reading network events device t complete.past)) in
    subst (IsLocalClock s hs device t) (sym is)
    (shown_is s hs device t shows.broken broken
    (sym (at.2.state ∙ ap (λ l. state_after s l device) same)) reads
    (at.2.adjustment ∙ ap (λ l. adjustment_after s l device) same))

-- ---- the local clock of a device before the records of the present time, as a world shows it, is that of the records

-- ---- where only events of the instant are worked off

-- no device has acted at the instant
not_acted : {M : Type 0} {stands : Meaning M} {s : Scenario}
    {hs coming : List Happening} {frontier : List ℕ} {now : ℕ} {device : DeviceId} {machine : M}
    (k : IsKept stands s hs coming frontier now device machine)
    → ((p : List ℕ) → IsBefore p frontier → IsBefore p (now ∷ 2 ∷ [])) → k.up ≡ now
not_acted {now} k early = elim k.acted [
  | inl yet ↦ yet.0
  | inr over ↦ absurd (never_self (now ∷ 2 ∷ []) (early (now ∷ 2 ∷ []) (over.1 (now ∷ 2 ∷ []) (inr (refl, inl (omega arith))))))
]

-- a node of the device shows what the events of the time and the records before it say
record ShowsSound (s : Scenario) (hs : List Happening) (device : DeviceId) (now : ℕ) (node : Node) : Type 0 where
  pub state : node.standing.state ≡ state_before s hs device now
  pub adjustment : node.standing.adjustment ≡ adjustment_before s hs device now

-- unless the device is broken, its machine stands for such a node
sound_shows : {M : Type 0} {stands : Meaning M} {s : Scenario}
    {hs coming : List Happening} {frontier : List ℕ} {now : ℕ} {device : DeviceId} {machine : M}
    → IsHeld stands s hs coming frontier now device machine → coming ≡ []
    → ((p : List ℕ) → IsBefore p frontier → IsBefore p (now ∷ 2 ∷ []))
    → (node : Node) × stands machine s.network device node
    × (is_broken s device now ≡ false → ShowsSound s hs device now node)
sound_shows {s} {hs} {coming} {now} {device} (inl k) empty early =
    let up = not_acted k early in
    let all : hs ++ coming ≡ hs = rw empty (append-nil hs) in (
      k.node,
      k.is,
      λ sound. record {
        state = k.left.state ∙ ap (λ n. state_before s (hs ++ coming) device n) up ∙ ap (λ l. state_before s l device now) all;
        adjustment =
            k.left.counted.adjustment ∙ ap (λ n. adjustment_before s (hs ++ coming) device n) up
            ∙ ap (λ l. adjustment_before s l device now) all;
      },
    )
sound_shows (inr k) empty early = (k.node, k.is, λ sound. (let no = sym k.broken ∙ sound in cc))

-- ---- what is shown

shown_before : (s : Scenario) (hs : List Happening) (device : DeviceId) (t : ℕ) (broken : Bool) (state : DeviceState) {x : ℕ} (a : Units)
    → is_broken s device t ≡ broken → x ≡ s.reading device t
    → (is_broken s device t ≡ false → (state ≡ state_before s hs device t) × (a ≡ adjustment_before s hs device t))
    → IsLocalClockBefore s hs device t (local_shown broken state x a)
shown_before s hs device t true state a broken reads shows = λ step. (let no = sym broken ∙ step.correct in cc)
shown_before s hs device t false states.Synchronised a broken reads shows = grind arith
shown_before s hs device t false other a broken reads shows = λ step.
    (let no : ◌≡◌ other states.Synchronised = (shows broken).0 ∙ step.synchronised in cc)

pub local_is_before : {C M : Type 0} {reading : C → ℕ → ℕ} {stands : Meaning M}
    {s : Scenario} {own : Network} {state : State C M} {notes : List Note} {device : DeviceId} {t : ℕ}
    {shown : Option ℤ} → Stands reading (keeps stands) s (world_of own state) notes → state.early ≡ true
    → device.0 < length own.device → t ≡ state.time → Shows reading stands state device t shown
    → IsLocalClockBefore s (happenings s.network notes) device state.time shown
local_is_before {reading} {stands} {s} {own} {state} {notes} {device} {t} old early lt at shows =
    let world = world_of own state in
    let hs = happenings s.network notes in
    let now = world.now in
    let there : device.0 < length s.network.device = rw old.same at lt in
    let held = old.devices device there in
    let machine = sound_shows held.2 (none_coming old early) (old.early early) in
    let node = machine.0 in
    let same = some_same held.0 shows.kept _ held.1 shows.kept_is in
    let is = shows.is s.network node (rw (sym same) machine.1) in
    let broken = some_same _ _ _ (old.broken device there) shows.broken_is in
    let own_clock = old.clocks device there in
    let clock = some_same _ _ _ own_clock.1 shows.clock_is in
    let reads : reading shows.clock t ≡ s.reading device now =
    rw at (ap (λ c. reading c now) (sym clock) ∙ sym (own_clock.2 now (omega arith))) in
    subst (IsLocalClockBefore s hs device now) (sym is)
    (shown_before s hs device now shows.broken node.standing.state node.standing.adjustment broken reads
    (λ sound. let said = machine.2 sound in (said.state, said.adjustment)))
