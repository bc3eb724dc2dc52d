-- How a history stands to the events that it took.
use Rattle.std.specs.Prelude.{◌*◌, ◌++◌, ◌+◌, ◌==◌, ◌∷◌, ◌≡◌, Bool, List, MatchResult, None, Option, Result, Some, []}
use Rattle.std.specs.Prelude.{false, length, nat_le, slice_get, ℕ}
use Rattle.audit_law.specs.declared.events.history.{DeviceHistory.DeviceHistory, EventHistory.EventHistory}
use Rattle.audit_law.specs.declared.events.history.WayHistory.{WayHistory}
use Rattle.drift_clock.specs.Segment.{fresh_segment}
use Rattle.audit_law.specs.events.{Clocks.clocks_after, Readings.{HaveBegun, scenario_under}, Settings.IsSetBy}
use Rattle.net_plan.specs.{Belonging.IsOfNetwork, declared.{event.Event.Event, ids.LinkId.LinkId, tables.Way.Way}}
use Rattle.{net_plan.specs.Ranges.IsInRange, tte_units.specs.Amount.amount}
use Rattle.net_plan.specs.declared.{ids.DeviceId.DeviceId, network.Network.Network, tables.Way.TheVariants.{Down, Up}}
use Rattle.run_law.specs.scenario.{Hypothesis.{AreWithinHypothesis, IsWithinHypothesis}, Rates.rate_steps}
use Rattle.run_law.specs.scenario.{Scenarios.{is_broken, is_turned_on_at}, Ways.{cut_set, hold_set, wire_of, wire_set}}

-- the place of a way: the two of a link stand side by side
abbrev pub way_place : LinkId → Way → ℕ
way_place link Up = 2 * link.0
way_place link Down = 2 * link.0 + 1

-- has the time come by then?
abbrev pub has_come : Option ℕ → ℕ → Bool
has_come None time = false
has_come (Some from) time = nat_le from time

-- is it this very time?
abbrev pub is_at : Option ℕ → ℕ → Bool
is_at None time = false
is_at (Some at) time = at == time

-- it tells the wire delays, the holds and the cuts of this way
pub record TellsWay (network : Network) (events : List Event) (link : LinkId) (way : Way) (told : WayHistory) : Type 0
  where
    pub delay : IsSetBy (wire_set link way) (wire_of network link) events told.delay
    pub hold : IsSetBy (hold_set link way) 0 events told.hold
    pub cut : IsSetBy (cut_set link way) false events told.cut

-- it tells what each step of its rate makes of the device's clock, when it broke and when it was turned on
pub record TellsDevice (network : Network) (events : List Event) (device : DeviceId) (told : DeviceHistory) : Type 0
  where
    pub fresh : told.clock.initial ≡ fresh_segment (amount network.grain)
    pub clock : told.clock.changes.items ≡ clocks_after (fresh_segment (amount network.grain))
        (rate_steps events device)
    pub broken : (time : ℕ) → is_broken (scenario_under network events) device time ≡ has_come told.broken time
    pub turned_on : (time : ℕ) → is_turned_on_at (scenario_under network events) device time ≡ is_at told.turned_on time

-- the history is of these events, which befell the network within the hypothesis: it tells each way and each device
pub record Remembers (network : Network) (events : List Event) (history : EventHistory) : Type 0 where
  pub range : IsInRange network
  pub within : AreWithinHypothesis network events
  pub begun : HaveBegun events
  pub ways_count : length history.ways.items ≡ 2 * length network.link
  pub ways : (link : LinkId) (way : Way) (told : WayHistory)
      → slice_get history.ways.items (way_place link way) ≡ Some told
      → TellsWay network events link way told
  pub devices_count : length history.devices.items ≡ length network.device
  pub devices : (device : DeviceId) (told : DeviceHistory) → slice_get history.devices.items device.0 ≡ Some told
      → TellsDevice network events device told

-- the history is of some events
abbrev pub RemembersSome : EventHistory → Type 0
RemembersSome history = (network : Network) × (events : List Event) × Remembers network events history

-- the event may befall the network, given these events
pub record MayBefall (network : Network) (events : List Event) (event : Event) : Type 0 where
  pub of_network : IsOfNetwork network event.what
  pub within : IsWithinHypothesis network events event

-- it may befall the network of the history
abbrev pub MayBeAdded : EventHistory → Event → Type 0
MayBeAdded history event =
    (network : Network) × (events : List Event) × Remembers network events history × MayBefall network events event

-- the history is of one event more, or is as it was where memory ran out
abbrev pub IsAdded : {E : Type 0} → EventHistory → EventHistory → Event → Result (Unit {0}) E → Type 0
IsAdded old new event result =
    (network : Network) (events : List Event) → Remembers network events old → MayBefall network events event
    → MatchResult result
    (λ _. Remembers network (events ++ event ∷ []) new)
    (λ _. Remembers network events new)
