-- The events of a storm, one after another: their times, and which are within the hypothesis.
use Rattle.std.{specs.{List.Any, Prelude.{IsSomeAnd, unsigned_abs}}}
use Rattle.std.proofs.{Math.Nat.mul-le-mul_right, lemmas.{Bool.cases_Bool, Int.ints}}
use Rattle.std.proofs.Common
use Common.{◌*◌, ◌++◌, ◌+◌, ◌/◌, ◌^◌, ◌↔◌, ◌∙◌, ◌∷◌, ◌≡◌, ◌≤ℤ◌, ◌≤◌, List, None, Option, Some, [], ap, append_assoc}
use Common.{arith, inl, inr, length, length-append, pos, refl, subst, suc, sym, true, zero, ℕ}
use Rattle.fault_hypothesis.{proofs.Keeping.stands_where}
use Rattle.fault_hypothesis.specs.{Watching.Watches, declared.{storm.draw.StormDraw.StormDraw, watch.Watch.Watch}}
use Rattle.fault_hypothesis.specs.storm.{Known.KnowsBroken, Laws.StormsAreWithin, Striking.IsMaster}
use Rattle.fault_hypothesis.specs.storm.Events
use Events.{AreNoLater, AreStormEvents, IsEventOf, IsStormEvent, substitute, time_of}
use Rattle.net_plan.specs.{Places.{device_at, is_master}}
use Rattle.net_plan.specs.declared.{event.Event.Event, ids.DeviceId.DeviceId, network.Network.Network}
use Rattle.net_plan.specs.declared.{tables.Device.Device}
use Rattle.run_law.specs.declared.outside.Outside.TheVariants
use TheVariants.{Channel as OtherChannel, Hold, Late, NotBroken, NotMaster, NotOff, Order, Rate, SecondBreak}
use TheVariants.{TooFewMasters, Wire}
use Rattle.run_law.specs.scenario.{Faults.{Breaks, IsBroken}}
use Rattle.run_law.specs.scenario.{Hypothesis.{AreWithinHypothesis, ComesTooEarly, IsWithinHypothesis}}
use Rattle.tte_units.specs.{Amount.amount, declared.units.Units.Units}
use Rattle.net_plan.specs.declared.event.What.TheVariants as kinds

-- ---- which events of a storm are within the hypothesis

-- where something holds of some element, the list stands in front of it and behind
pub any_split : {X : Type 0} (P : X → Type 0) (xs : List X) → Any P xs → (front : List X) × (x : X) × (behind : List X) × (xs ≡ front ++ x ∷ behind) × P x
any_split P [] (k, x, within, at, holds) = absurd (omega arith)
any_split P (z ∷ xs) (zero, x, within, at, holds) = ([], z, xs, refl, subst P (sym at) holds)
any_split {X} P (z ∷ xs) (suc k, x, within, at, holds) =
    let rest = any_split P xs (k, x, omega arith, at, holds) in
    (z ∷ rest.0, rest.1, rest.2, ap (λ t. z ∷ t) rest.3, rest.4)

-- a device that is not no master is one
not_no_master : (o : Option Device) → ((IsSomeAnd o (λ d. is_master d.role ≡ true) → ⊥) → ⊥) → IsSomeAnd o (λ d. is_master d.role ≡ true)
not_no_master None twice = absurd (twice (λ h. h))
not_no_master (Some d) twice =
    elim (cases_Bool (is_master d.role)) [
      | inl is ↦ is
      | inr other ↦ absurd (twice (λ is. let never = sym is ∙ other in absurd cc))
    ]

-- each device that events within the hypothesis break is a master
pub broken_is_master : (network : Network) (before : List Event) → AreWithinHypothesis network before → (device : DeviceId) → IsBroken before device
    → IsMaster network device
broken_is_master network before within device broken =
    let at = any_split (Breaks device) before broken in
    not_no_master (device_at network device)
    (λ no. within at.0 at.2 at.1 at.3 NotMaster (record { device = device; breaks = at.4; no_master = no }))

-- what a watch knows of the broken device
pub knows_broken : {network : Network} {watch : Watch} {before : List Event} (broken : Option DeviceId)
    → Watches network watch before → ((device : DeviceId) → (broken ≡ Some device) ↔ IsBroken before device)
    → KnowsBroken network before broken
knows_broken {network} {before} broken w known =
    record { known = known; masters = broken_is_master network before w.within }

-- an event at a time that is not before those of the others does not come too early
in_order : {before : List Event} {event : Event} → AreNoLater before event.time → ComesTooEarly before event → ⊥
in_order no_later v = omega (arith, ints, v.later, no_later v.front v.last v.order)

module _ (network : Network) (before : List Event) (event : Event) (what : event.what ≡ kinds.End)
    (no_later : AreNoLater before event.time) (in_run : event.time.0 ≤ℤ pos (2 ^ 20 * amount network.cycle)) where
  -- the end is within the hypothesis
  pub end_within : IsWithinHypothesis network before event
  end_within Order v = in_order no_later v
  end_within Late v = omega (arith, ints)
  end_within Rate v = let is = v.what in absurd cc
  end_within Wire v = let is = v.what in absurd cc
  end_within Hold v = let is = v.what in absurd cc
  end_within OtherChannel v = let is = v.what in absurd cc
  end_within NotMaster v = let is = v.breaks in absurd cc
  end_within SecondBreak v = let is = v.breaks in absurd cc
  end_within TooFewMasters v = let is = v.breaks in absurd cc
  end_within NotBroken v = let is = v.what in absurd cc
  end_within NotOff v = absurd cc

module _ (network : Network) (before : List Event) (event : Event) (what : event.what ≡ substitute)
    (no_later : AreNoLater before event.time) (in_run : event.time.0 ≤ℤ pos (2 ^ 20 * amount network.cycle)) where
  -- what stands for a refused event is within the hypothesis
  pub substitute_within : IsWithinHypothesis network before event
  substitute_within Order v = in_order no_later v
  substitute_within Late v = omega (arith, ints)
  substitute_within Rate v =
      let is = v.what in
      let still : v.rate ≡ record { 0 = pos 0 } = cc in
      let none : unsigned_abs v.rate.0 ≡ 0 = ap (λ r. unsigned_abs r.0) still in
      omega (arith, v.fast)
  substitute_within Wire v = let is = v.what in absurd cc
  substitute_within Hold v = let is = v.what in absurd cc
  substitute_within OtherChannel v = let is = v.what in absurd cc
  substitute_within NotMaster v = let is = v.breaks in absurd cc
  substitute_within SecondBreak v = let is = v.breaks in absurd cc
  substitute_within TooFewMasters v = let is = v.breaks in absurd cc
  substitute_within NotBroken v = let is = v.what in absurd cc
  substitute_within NotOff v = absurd cc

-- the event of a step is within the hypothesis
pub step_within : {network : Network} {before : List Event} {time : Units} {draw : StormDraw} {event : Event}
    → IsEventOf network before time draw event → AreNoLater before time
    → time.0 ≤ℤ pos (2 ^ 20 * amount network.cycle) → IsWithinHypothesis network before event
step_within {network} {before} {time} of_step no_later in_run =
    elim of_step.becomes [
      | inl is ↦ subst (IsWithinHypothesis network before) (sym is.1) is.0
      | inr is ↦
          subst (IsWithinHypothesis network before) (sym is.1)
          (substitute_within network before (record { time = time; what = substitute }) refl no_later in_run)
    ]

-- ---- the events of a storm, one after another: their times, and that they are within the hypothesis

module _ (network : Network) (seed cycles : ℕ) (before : List Event) (n : ℕ) (event : Event) where
  -- the time of an event of a storm
  pub storm_time : IsStormEvent network seed cycles before n event → event.time ≡ time_of network n
  storm_time (inl step) =
      elim step.1.becomes [
        | inl is ↦ rw is.1
        | inr is ↦ rw is.1
      ]
  storm_time (inr end) = rw end.1

  -- a storm has no event behind its end
  pub storm_number : IsStormEvent network seed cycles before n event → n ≤ 8 * cycles
  storm_number (inl step) = omega (arith, step.0)
  storm_number (inr end) = omega (arith, end.0)

-- the steps of a storm lie in the run
pub time_in_run : (network : Network) (n : ℕ) → n ≤ 800000 → (time_of network n).0 ≤ℤ pos (2 ^ 20 * amount network.cycle)
time_in_run network n few =
    let product : (n + 1) * (amount network.cycle / 8) ≤ 800001 * (amount network.cycle / 8) =
    mul-le-mul_right (amount network.cycle / 8) (omega (arith, few)) in
    omega (arith, ints, product)

-- the times do not fall
pub time_grows : (network : Network) (n : ℕ) → (time_of network n).0 ≤ℤ (time_of network (n + 1)).0
time_grows network n =
    let product : (n + 1) * (amount network.cycle / 8) ≤ (n + 1 + 1) * (amount network.cycle / 8) = mul-le-mul_right (amount network.cycle / 8) (omega arith) in
    omega (arith, ints)

module _ (network : Network) (seed cycles : ℕ) where
  -- the events of a storm are no later than the next one
  pub no_later : (events : List Event) → AreStormEvents network seed cycles events
      → AreNoLater events (time_of network (length events))
  no_later events each front last order =
      let time = storm_time network seed cycles front (length front) last (each front [] last order) in
      let size : length events ≡ length front + 1 = ap length order ∙ length-append front (last ∷ []) in
      rw size (rw time (time_grows network (length front)))

  -- what is in front of some events of a storm are events of it
  pub front_of_storm : (front rest : List Event) → AreStormEvents network seed cycles (front ++ rest)
      → AreStormEvents network seed cycles front
  front_of_storm front rest each before behind event order =
      each before (behind ++ rest) event (rw order (append_assoc before
      (event ∷ behind) rest))

  -- an event of a storm is within the hypothesis
  pub event_within : {before : List Event} (n : ℕ) {event : Event} → cycles ≤ 100000
      → IsStormEvent network seed cycles before n event → AreNoLater before (time_of network n)
      → IsWithinHypothesis network before event
  event_within n few (inl step) later =
      step_within step.1 later (time_in_run network n (omega (arith, step.0)))
  event_within {before} n few (inr end) later =
      subst (IsWithinHypothesis network before) (sym end.1)
      (end_within network before _ refl later (time_in_run network n (omega (arith, end.0))))

pub storms_within : StormsAreWithin
storms_within network seed cycles events few each before behind event order =
    let front = front_of_storm network seed cycles before (event ∷ behind) (subst (AreStormEvents network seed cycles) order each) in
    event_within network seed cycles (length before) few (each before behind event order)
    (no_later network seed cycles before front)

-- no events are those of a storm
pub no_events : (network : Network) (seed cycles : ℕ) → AreStormEvents network seed cycles []
no_events network seed cycles [] behind event order = absurd cc
no_events network seed cycles (b ∷ before) behind event order = absurd cc

module _ (network : Network) (seed cycles : ℕ) (events : List Event) where
  -- the events of a storm go on by the next one
  pub more_events : {event : Event} → AreStormEvents network seed cycles events
      → IsStormEvent network seed cycles events (length events) event
      → AreStormEvents network seed cycles (events ++ event ∷ [])
  more_events {event} each next before behind other order =
      elim (stands_where events event before other behind order) [
        | inl s ↦ each before s.rest other s.whole
        | inr s ↦
            rw s.same (rw s.before_is next)
      ]

  -- ---- for who gives the events of a storm to a watch, one after another

  -- the events so far are no later than the one to come
  pub none_later : (given : ℕ) → AreStormEvents network seed cycles events → length events ≡ given
      → AreNoLater events (time_of network given)
  none_later given each count =
      rw count at (no_later network seed cycles events each)

  -- with the one that comes they are one more
  pub one_more : (given : ℕ) {event : Event} → AreStormEvents network seed cycles events → length events ≡ given
      → IsStormEvent network seed cycles events given event
      → AreStormEvents network seed cycles (events ++ event ∷ []) × (length (events ++ event ∷ []) ≡ given + 1)
  one_more given {event} each count next = (
    more_events each (rw count next),
    length-append events (event ∷ []) ∙ (rw count),
  )
