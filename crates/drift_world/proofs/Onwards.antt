-- A world stands at first and goes on by events within the hypothesis, its clocks steady and delays short.
use Rattle.std.{specs.{Int.abs_diff, Option.option_map}}
use Rattle.std.proofs.{Common.{All, filter_map, negsuc, slice_get}, Math.Nat.mul-le-mul_right}
use Rattle.std.proofs.{lemmas.List.{Elements.{All-nil, All-push}, length-replicate}}
use Rattle.drift_clock.specs.ClockLaws.{AlwaysBeginsAtZero, AlwaysKeepsClockLaws, KeepsClockLaws}
use Rattle.drift_world.proofs.{Agreements.{clock_more, reads_same, reads_value}}
use Rattle.drift_world.proofs.{Beginnings.{first_ways_are, found, found_in, none_under_way}, Events.{forward, suits}}
use Rattle.drift_world.proofs.Signals.{none_apart}
use Rattle.run_law.{proofs.scenario.Devices.all_within, specs.law.FirstLaws.IsEventInRange}
use Rattle.drift_world.proofs.Words
use Words.{◌*◌, ◌++◌, ◌+ℤ◌, ◌+◌, ◌-◌, ◌<ℤ◌, ◌<◌, ◌^◌, ◌∙◌, ◌∷◌, ◌≡◌, ◌≤ℤ◌, ◌≤◌, ◌⊎◌, AreApart, AreBelow, AreUnderWay}
use Words.{AreWays, AreWithinHypothesis, DeviceId, Err, FitsWorld, HasItsOctets, IfOk, IsIn, IsInRange, IsLawful}
use Words.{IsLinkInRange, IsOfNetwork, IsShort, IsSound, IsWithinHypothesis, KeepsRules, Kept, List, Meaning, Network}
use Words.{Note, Ok, OnOk, OutOfMemory, Result, Settled, Some, Stands, StandsUnder, Waits, What, World, [], amount, ap}
use Words.{arith, at_port, begins_at_zero, cases_lt, clock_after, happenings, in_all, in_get, in_parts, inl, inr, ints}
use Words.{keeps, keeps_clock_laws, length, length-map, map, on_wire, one, pos, rate_steps, reading_of, refl, scenario}
use Words.{slice_get-get_or, slice_get-map, slice_get_within, subst, sym, unsigned_abs, way_as, world_of, ℕ, ℤ}
use Rattle.drift_world.specs.{Beginning.{AreFresh, IsFirstState}, Following.Follows}
use Rattle.drift_world.specs.{Running.{HoldsATime, IsOpenTo, clock_of}, declared.state.State.State}
use Rattle.net_plan.{proofs.Trees.{beta_exists, rules_give_trees}}
use Rattle.net_plan.{specs.{Bounds.{IsBeta, beta_at}, declared.event.Event.Event}}
use Rattle.precision_law.proofs.traffic_lemmas.safety_lemmas.Lawful.{history}
use Rattle.schedule_tables.{proofs.Margins.shape_rules, specs.declared.rule.Rule.TheVariants.Precision}
use Rattle.world_law.{proofs.{devices.Leaps.no_leap, steps_lemmas.steps.Passed.begun}}
use Rattle.world_law.{specs.{device.Ready.IsSteady, source.Applying.note_of_event}}
use Rattle.world_state.specs.{Applying.SetsShort, Beginning.first_way, Keeping.sound_one}
use Rattle.net_plan.specs.declared.event.What.TheVariants as events
use Rattle.run_law.specs.declared.outside.Outside.TheVariants as outside

-- ---- what a clock reads under events within the hypothesis is steady

-- the precision holds eighty grains
pub many_grains : (network : Network) → KeepsRules network → 80 * amount network.grain ≤ amount network.precision
many_grains network rules =
    let found = (beta_exists network (rules_give_trees network (shape_rules network rules))).1 in
    let beta = beta_at network found.jitter found.links in
    let is : IsBeta network (pos beta) = subst (IsBeta network) found.value found in
    let fits = (rules Precision 0).errors beta is in
    omega arith

-- over one unit of time a reading goes on by less than the precision
little : (seen rho grain d precision : ℕ) → rho ≤ 1000000 → 1 ≤ grain → 80 * grain ≤ precision → seen ≤ 1 + d
    → 10 ^ 9 * d ≤ rho * 1 + 2 * grain * 10 ^ 9 → seen < precision
little seen rho grain d precision slow some many at measures = omega arith

no_jump : {rho grain : ℕ} (precision : ℕ) {reading : ℕ → ℕ} → rho ≤ 1000000 → 1 ≤ grain → 80 * grain ≤ precision
    → KeepsClockLaws rho grain reading → (t : ℕ) → reading (t + 1) < reading t + precision
no_jump {rho} {grain} precision {reading} slow some many laws t =
    let one : t + 1 - t ≡ 1 = omega arith in
    let fell = laws.never_falls t (t + 1) (omega arith) in
    let seen = reading (t + 1) - reading t in
    let measures = rw one at (laws.drifts t (t + 1) (omega arith)) in
    let at : seen ≤ 1 + abs_diff seen 1 = omega arith in
    let less = little seen rho grain (abs_diff seen 1) precision slow some many at measures in
    omega arith

-- a reading that begins at 0 is never far ahead
ahead : (seen rho grain d t : ℕ) → grain ≤ 2 ^ 20 → t ≤ 2 ^ 60 → rho * t ≤ 1000000 * t → seen ≤ t + d
    → 10 ^ 9 * d ≤ rho * t + 2 * grain * 10 ^ 9 → seen ≤ 2 ^ 60 + 2 ^ 51
ahead seen rho grain d t fine early slow at measures = omega arith

low : {rho grain : ℕ} {reading : ℕ → ℕ} → rho ≤ 1000000 → grain ≤ 2 ^ 20 → KeepsClockLaws rho grain reading
    → reading 0 ≡ 0 → (t : ℕ) → t ≤ 2 ^ 60 → reading t ≤ 2 ^ 60 + 2 ^ 51
low {rho} {grain} {reading} slow fine laws zero_first t early =
    let since : t - 0 ≡ t = omega arith in
    let seen : reading t - reading 0 ≡ reading t = omega arith in
    let drift = rw since at (laws.drifts 0 t (omega arith)) in
    let measures = rw seen at drift in
    let at : reading t ≤ t + abs_diff (reading t) t = omega arith in
    ahead (reading t) rho grain (abs_diff (reading t) t) t fine early (mul-le-mul_right t slow) at measures

steady_by : {rho grain : ℕ} (precision : ℕ) {reading : ℕ → ℕ} → rho ≤ 1000000 → 1 ≤ grain → grain ≤ 2 ^ 20
    → 80 * grain ≤ precision → KeepsClockLaws rho grain reading → reading 0 ≡ 0 → IsSteady reading precision
steady_by {rho} {grain} precision {reading} slow some fine many laws zero_first = record {
  never_falls = laws.never_falls;
  no_jump = no_jump precision slow some many laws;
  no_leap = no_leap rho grain reading slow fine laws;
  low = low slow fine laws zero_first;
}

-- the readings of each clock of a network are steady, whatever the events within the hypothesis
pub steady : {C : Type 0} (fresh : ℕ → C) (after_step : C → ℕ → ℤ → C) (reading : C → ℕ → ℕ)
    → AlwaysKeepsClockLaws fresh after_step reading → AlwaysBeginsAtZero fresh after_step reading
    → {network : Network} (events : List Event) (device : DeviceId) → IsInRange network → KeepsRules network
    → AreWithinHypothesis network events → ((e : Event) → IsIn e events → pos 0 ≤ℤ e.time.0)
    → IsSteady (reading_of fresh after_step reading network events device) (amount network.precision)
steady fresh after_step reading laws zero_first {network} events device range rules within begun =
    let least = range.grain.least in
    let most = range.grain.most in
    let some : 1 ≤ amount network.grain = omega (arith, ints) in
    let fine : amount network.grain ≤ 2 ^ 20 = omega (arith, ints) in
    steady_by (amount network.precision) range.rho some fine (many_grains network rules)
    (laws network.rho (amount network.grain) (rate_steps events device) range.rho some (history network events device within begun))
    (zero_first (amount network.grain) (rate_steps events device))

-- ---- a world as it is at first is sound, and it stands

none_within : (network : Network) → AreWithinHypothesis network []
none_within network before behind e order = absurd (from before order)
  where
    from : (l : List Event) → [] ≡ l ++ e ∷ behind → ⊥
    from [] same = cc
    from (x ∷ l) same = cc

module _ {C M : Type 0} {fresh : ℕ → C} {last_step : C → ℕ} {network : Network} {machines : List M} {state : State C M}
    (first : IsFirstState fresh last_step network machines state) where
  ways_short : IsInRange network → All IsShort (map first_way network.link)
  ways_short range k d lt =
      let n : length (map first_way network.link) ≡ length network.link = length-map _ _ in
      let it = found network.link k (omega (arith, lt, n)) in
      let known = in_all (IsLinkInRange network) network.link k it.0 range.links it.1 in
      let short : IsShort (first_way it.0) = (omega (arith, ints, known.wire.least, known.wire.most), omega arith) in
      let at = slice_get-map first_way network.link k ∙ ap (option_map first_way) it.1 in
      subst IsShort (one (slice_get (map first_way network.link) k) _ _ at
      (slice_get-get_or (map first_way network.link) k d lt)) short

  pub first_sound : IsInRange network → length machines ≡ length network.device → IsSound last_step network state
  first_sound range many = record {
    sized = record {
      clocks = ap length first.clocks ∙ length-replicate _ _;
      machines = ap length first.machines ∙ length-map _ _ ∙ many;
      broken = ap length first.broken ∙ length-replicate _ _;
      ups = ap length first.ups ∙ length-map _ _;
      downs = ap length first.downs ∙ length-map _ _;
      stepped = λ k d lt. let un = first.unstepped k d lt in omega (arith, first.time, un);
      limit = omega (arith, first.time);
      shown = omega (arith, first.shown);
    };
    under_way = subst (AreUnderWay network) (sym first.under_way) (none_under_way network);
    fit = record {
      ups = subst (All IsShort) (sym first.ups) (ways_short range);
      downs = subst (All IsShort) (sym first.downs) (ways_short range);
      octets = subst (All (λ (z : Settled). HasItsOctets z.body z.octets)) (sym first.settled) (All-nil _);
      below = subst (AreBelow (state.given + 1)) (sym first.under_way) (λ e i. absurd i);
      waits_below = subst (All (λ (w : Waits). w.cause < state.given + 1)) (sym first.waiting) (All-nil _);
      apart = subst AreApart (sym first.waiting) none_apart;
    };
  }

  module _ {after_step : C → ℕ → ℤ → C} {reading : C → ℕ → ℕ} {grain : C → ℕ} {count : C → ℕ → ℕ} (law : IsLawful fresh after_step reading grain count)
      {stands : Meaning M} (are : AreFresh stands network machines) (range : IsInRange network) (rules : KeepsRules network) where
    stood : Stands reading (keeps stands) (scenario network (reading_of fresh after_step reading network []) [])
        (world_of network state) []
    stood =
        begun reading (keeps stands) network (reading_of fresh after_step reading network []) (world_of network state)
        (record {
          of_it = refl;
          clocks = λ device lt. (fresh (amount network.grain), ap (λ cs. slice_get cs device.0) first.clocks ∙ found_in _ _ _ lt, λ t late. refl);
          machines = λ device lt. let of = found machines device.0 (rw (sym are.each) at lt) in (
            sound_one of.0,
            ap (λ ms. slice_get ms device.0) first.machines ∙ slice_get-map sound_one machines device.0 ∙ ap (option_map sound_one) of.1,
            (are.begun device of.0 of.1, refl),
          );
          broken = λ device lt. ap (λ bs. slice_get bs device.0) first.broken ∙ found_in _ _ _ lt;
          ways = subst (λ l. AreWays (scenario network (reading_of fresh after_step reading network []) []) 0 (map way_as l) (map way_as state.downs.items))
              (sym first.ups)
              (subst (λ l. AreWays (scenario network (reading_of fresh after_step reading network []) []) 0 (map way_as (map first_way network.link))
              (map way_as l)) (sym first.downs) (first_ways_are network (reading_of fresh after_step reading network [])));
          wires = ap (filter_map (on_wire network)) first.under_way;
          ports = ap (filter_map at_port) first.under_way;
          waiting = ap (map _) first.waiting;
          stored = ap (map _) first.stored;
          settled = ap (map _) first.settled;
          early = first.early;
          pending = first.pending;
          befell = ap (map _) first.befell;
          now = first.time;
          lines = first.lines;
          given = first.given;
          ended = first.ended;
          shown = first.shown;
        })
        (forward (reading_of fresh after_step reading network []) [] range (none_within network))
        (λ device. steady fresh after_step reading (keeps_clock_laws fresh after_step reading grain count law)
        (begins_at_zero fresh after_step reading grain count law) [] device range rules (none_within network) (λ e i. absurd i))
        (λ device. begins_at_zero fresh after_step reading grain count law (amount network.grain) [])
        (omega (arith, ints, range.precision.least)) range rules

    pub first_stands : StandsUnder fresh after_step reading stands network (world_of network state) [] []
    first_stands = record {
      is = stood;
      clocks = λ device lt. ap (λ cs. slice_get cs device.0) first.clocks ∙ found_in _ _ _ lt;
      of_network = All-nil (λ (e : Event). IsOfNetwork network e.what);
      times = All-nil IsEventInRange;
      within = none_within network;
    }

-- ---- a world goes on by an event

-- an event of a time from 0 on, with a hold from 0 on, is in range
in_range : (event : Event) (time : ℕ) → event.time.0 ≡ pos time → HoldsATime event.what → IsEventInRange event
in_range event time at hold = grind (arith, ints)

module _ {C M : Type 0} {fresh : ℕ → C} {after_step : C → ℕ → ℤ → C} {reading : C → ℕ → ℕ} {grain : C → ℕ} {count : C → ℕ → ℕ}
    (law : IsLawful fresh after_step reading grain count) {stands : Meaning M} {network : Network} (state : State C M)
    {events : List Event} {notes : List Note} (event : Event)
    (under : StandsUnder fresh after_step reading stands network (world_of network state) events notes)
    (time : event.time.0 ≡ pos state.time) (hold : HoldsATime event.what) (within : IsWithinHypothesis network events event) where
  -- no event is before time 0, or later than the present
  begun_before : (e : Event) → IsIn e events → pos 0 ≤ℤ e.time.0
  begun_before e i = let at = in_get events e i in under.is.befallen.begun at.0 e at.1

  begun_all : (e : Event) → IsIn e (events ++ event ∷ []) → pos 0 ≤ℤ e.time.0
  begun_all e i = elim (in_parts e events (event ∷ []) i) [
    | inl old ↦ begun_before e old
    | inr (inl same) ↦ subst (λ d. pos 0 ≤ℤ d.time.0) (sym same) (omega (arith, ints, time))
    | inr (inr none) ↦ absurd none
  ]

  now_is : amount event.time ≡ state.time
  now_is = ap unsigned_abs time

  past_all : (e : Event) → IsIn e (events ++ event ∷ []) → amount e.time ≤ state.time
  past_all e i = elim (in_parts e events (event ∷ []) i) [
    | inl old ↦ (let at = in_get events e old in under.is.befallen.past at.0 e at.1)
    | inr (inl same) ↦ (let own : amount e.time ≡ amount event.time = ap (λ d. amount d.time) same in
        omega (arith, own, now_is))
    | inr (inr none) ↦ absurd none
  ]

  -- the clocks go on by it
  pub followed : length state.clocks.items ≡ length network.device → Follows after_step reading network (reading_of fresh after_step reading network events)
      (reading_of fresh after_step reading network (events ++ event ∷ [])) events event state
  followed many = record {
    begun = begun_before;
    same = λ device x le. reads_same fresh after_step reading grain count law network events event device x (omega (arith, le, now_is));
    steady = λ device. steady fresh after_step reading (keeps_clock_laws fresh after_step reading grain count law)
        (begins_at_zero fresh after_step reading grain count law) (events ++ event ∷ []) device under.is.range under.is.rules
        (all_within network events event under.within within) begun_all;
    reads = λ device clock is t late.
        let lt : device.0 < length network.device = let there = slice_get_within state.clocks.items device.0 clock is in omega (arith, there, many) in
        let own : clock_of fresh after_step network events device ≡ clock =
        one (slice_get state.clocks.items device.0) (clock_of fresh after_step network events device) clock (under.clocks device lt) is in
        reads_value fresh after_step reading network (events ++ event ∷ []) device t (λ e i. let past = past_all e i in omega (arith, past, late))
        ∙ ap (λ (c : C). reading c t) (clock_more fresh after_step network events event device
        ∙ ap (clock_after after_step device event.time event.what) own);
    forward = forward (reading_of fresh after_step reading network (events ++ event ∷ [])) (events ++ event ∷ []) under.is.range
        (all_within network events event under.within within);
  }

  -- and the world stands under the events with it
  pub stands_again : (new : State C M) {more : List Note} → IsOfNetwork network event.what
      → ((device : DeviceId) (clock : C) → slice_get state.clocks.items device.0 ≡ Some clock
      → slice_get new.clocks.items device.0 ≡ Some (clock_after after_step device event.time event.what clock))
      → Stands reading (keeps stands)
      (scenario network (reading_of fresh after_step reading network (events ++ event ∷ [])) (events ++ event ∷ []))
      (world_of network new) more → StandsUnder fresh after_step reading stands network (world_of network new) (events ++ event ∷ []) more
  stands_again new of_network clocks is = record {
    is = is;
    clocks = λ device lt. clocks device (clock_of fresh after_step network events device) (under.clocks device lt)
        ∙ ap Some (sym (clock_more fresh after_step network events event device));
    of_network = All-push (λ (e : Event). IsOfNetwork network e.what) events event under.of_network of_network;
    times = All-push IsEventInRange events event under.times (in_range event state.time time hold);
    within = all_within network events event under.within within;
  }

-- ---- by what a step answers

pub more_ok : {T E : Type 0} (P Q : T → Type 0) (K : Type 0) (r : Result T E) → (K → (x : T) → P x → Q x) → OnOk r K → IfOk r P → IfOk r Q
more_ok P Q K (Ok x) step known it = step known x it
more_ok P Q K (Err e) step known it = it

module _ {C M E : Type 0} {fresh : ℕ → C} {after_step : C → ℕ → ℤ → C} {reading : C → ℕ → ℕ} {grain : C → ℕ} {count : C → ℕ → ℕ}
    (law : IsLawful fresh after_step reading grain count) {stands : Meaning M} {network : Network} (state new : State C M)
    (event : Event) (result : Result Note E) (many : length state.clocks.items ≡ length network.device)
    (time : event.time.0 ≡ pos state.time) (hold : HoldsATime event.what) (of_network : IsOfNetwork network event.what)
    (clocks : OnOk result ((device : DeviceId) (clock : C) → slice_get state.clocks.items device.0 ≡ Some clock
    → slice_get new.clocks.items device.0 ≡ Some (clock_after after_step device event.time event.what clock)))
    (step : (f h : DeviceId → ℕ → ℕ) (past : List Event) (notes : List Note)
    → (old : Stands reading (keeps stands) (scenario network f past) (world_of network state) notes) → Follows after_step reading network f h past event state
    → FitsWorld (scenario network f past) (happenings network notes) state.time event.what → IfOk result (λ note. (note ≡ note_of_event notes past event)
    × Stands reading (keeps stands) (scenario network h (past ++ event ∷ [])) (world_of network new)
    (notes ++ note ∷ []))) where
  pub goes_on : (events : List Event) (notes : List Note) → StandsUnder fresh after_step reading stands network (world_of network state) events notes
      → IsWithinHypothesis network events event
      → IfOk result (λ note. StandsUnder fresh after_step reading stands network (world_of network new) (events ++ event ∷ []) (notes ++ note ∷ []))
  goes_on events notes under within =
      let f = reading_of fresh after_step reading network events in
      let h = reading_of fresh after_step reading network (events ++ event ∷ []) in
      let fits = suits network f events under.is event within event.what refl under.within
      of_network in
      let goes = followed law state event under time hold within many in
      more_ok (λ (note : Note). (note ≡ note_of_event notes events event)
      × Stands reading (keeps stands) (scenario network h (events ++ event ∷ [])) (world_of network new)
      (notes ++ note ∷ []))
      (λ (note : Note). StandsUnder fresh after_step reading stands network (world_of network new) (events ++ event ∷ []) (notes ++ note ∷ []))
      _ result
      (λ known note it. stands_again law state event under time hold within new
      of_network known it.1)
      clocks (step f h events notes under.is goes fits)

  -- and so for the network that it is
  pub goes_on_there : {n : Network} {events : List Event} {notes : List Note}
      → StandsUnder fresh after_step reading stands n (world_of network state) events notes → IsWithinHypothesis n events event
      → IfOk result (λ note. StandsUnder fresh after_step reading stands n (world_of network new) (events ++ event ∷ []) (notes ++ note ∷ []))
  goes_on_there {events} {notes} under within =
      subst (λ (m : Network). StandsUnder fresh after_step reading stands m (world_of network state) events notes → IsWithinHypothesis m events event
      → IfOk result (λ note. StandsUnder fresh after_step reading stands m (world_of network new) (events ++ event ∷ []) (notes ++ note ∷ [])))
      under.is.same (goes_on events notes) under within

-- ---- by the view of the state

module _ {C M : Type 0} {fresh : ℕ → C} {after_step : C → ℕ → ℤ → C} {reading : C → ℕ → ℕ} {grain : C → ℕ} {count : C → ℕ → ℕ}
    (law : IsLawful fresh after_step reading grain count) {stands : Meaning M} {network : Network} (state new : State C M)
    {world : World C (Kept M)} (view : world_of network state ≡ world) {event : Event} (note : Note)
    (many : length state.clocks.items ≡ length network.device) (open_to : IsOpenTo world event) (hold : HoldsATime event.what)
    (of_network : IsOfNetwork world.network event.what)
    (clocks : (device : DeviceId) (clock : C) → slice_get state.clocks.items device.0 ≡ Some clock
    → slice_get new.clocks.items device.0 ≡ Some (clock_after after_step device event.time event.what clock))
    (step : (f h : DeviceId → ℕ → ℕ) (past : List Event) (notes : List Note)
    → (old : Stands reading (keeps stands) (scenario network f past) (world_of network state) notes) → Follows after_step reading network f h past event state
    → FitsWorld (scenario network f past) (happenings network notes) state.time event.what → (note ≡ note_of_event notes past event)
    × Stands reading (keeps stands) (scenario network h (past ++ event ∷ [])) (world_of network new)
    (notes ++ note ∷ [])) where
  -- it stands again
  pub befalls : {n : Network} {events : List Event} {notes : List Note} → StandsUnder fresh after_step reading stands n world events notes
      → IsWithinHypothesis n events event → StandsUnder fresh after_step reading stands n (world_of network new) (events ++ event ∷ []) (notes ++ note ∷ [])
  befalls {n} {events} {notes} under within =
      let here = subst (λ w. StandsUnder fresh after_step reading stands n w events notes) (sym view) under in
      let time : event.time.0 ≡ pos state.time = open_to.time ∙ ap (λ (w : World C (Kept M)). pos w.now) (sym view) in
      let own = subst (λ w. IsOfNetwork w.network event.what) (sym view) of_network in
      let answer : Result Note OutOfMemory = Ok note in
      goes_on_there law state new event answer many time hold own clocks step here within

-- ---- a delay or a hold that an event within the hypothesis sets is short

pub sets_short : {network : Network} (past : List Event) (event : Event) → IsInRange network
    → IsWithinHypothesis network past event → (what : What) → event.what ≡ what → IsOfNetwork network what
    → HoldsATime what → SetsShort what
sets_short {network} past event range within (events.Wire link way delay) same there hold =
    let it = found network.link link.0 there in
    let l = it.0 in
    let known = in_all (IsLinkInRange network) network.link link.0 l range.links it.1 in
    let wire = known.wire in
    let jitter = known.jitter in
    elim (cases_lt (amount delay) (2 ^ 62)) [
      | inl short ↦ short
      | inr far ↦ absurd (within outside.Wire (record {
        link = link;
        way = way;
        delay = delay;
        what = same;
        other = rw it.1 (out delay.0 l.wire.0 l.jitter.0 far wire.least wire.most jitter.least jitter.most);
      }))
    ]
  where
    out : (d w j : ℤ) → 2 ^ 62 ≤ unsigned_abs d → pos 1 ≤ℤ w → w ≤ℤ pos (2 ^ 40) → pos 0 ≤ℤ j → j ≤ℤ pos (2 ^ 40) → (d <ℤ w) ⊎ ((w +ℤ j) <ℤ d)
    out (pos n) w j far a b c d = inr (omega (arith, ints))
    out (negsuc n) w j far a b c d = inl (omega (arith, ints))
sets_short {network} past event range within (events.Hold link way hold) same there begun =
    let it = found network.link link.0 there in
    let l = it.0 in
    let known = in_all (IsLinkInRange network) network.link link.0 l range.links it.1 in
    let most = known.hold.most in
    elim (cases_lt (amount hold) (2 ^ 62)) [
      | inl short ↦ short
      | inr far ↦ absurd (within outside.Hold (record {
        link = link;
        way = way;
        delay = hold;
        what = same;
        long = rw it.1 (omega (arith, ints));
      }))
    ]
sets_short past event range within (events.Rate device rate) same there hold = tt
sets_short past event range within other same there hold = tt
