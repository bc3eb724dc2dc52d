-- What a run is of: a network, its clocks, and the events that befall it.
use Rattle.std.specs.List.{last_or, list_any}
use Rattle.std.specs.Prelude.{◌&&◌, ◌==◌, Bool, List, None, Option, false, filter, filter_map, nat_le, unwrap_or, ℕ}
use Rattle.{net_plan.specs.declared.event.Event.Event, run_law.specs.scenario.Hypothesis.breaks_at}
use Rattle.net_plan.specs.declared.{event.What.{TheVariants.On, What}, ids.DeviceId.DeviceId, network.Network.Network}
use Rattle.tte_units.specs.Amount.{amount}

-- a network, what the clock of each device reads at each time, and the events in the order of the trace
pub record Scenario : Type 0 where
  pub network : Network
  pub reading : DeviceId → ℕ → ℕ
  pub events : List Event

-- the events up to a time, those of this time included
abbrev pub events_up_to : Scenario → ℕ → List Event
events_up_to s t = filter (λ e. nat_le (amount e.time) t) s.events

-- the last value that the events up to a time set, or else the initial one
abbrev pub last_set : {V : Type 0} → Scenario → (What → Option V) → V → ℕ → V
last_set s setting initial t = unwrap_or (last_or None (filter_map (λ e. setting e.what) (events_up_to s t))) initial

-- is the device broken at the time? Otherwise it is correct
abbrev pub is_broken : Scenario → DeviceId → ℕ → Bool
is_broken s device t = list_any (λ e. breaks_at device.0 e.what) (events_up_to s t)

-- does this turn the device on?
abbrev pub turns_on : DeviceId → What → Bool
turns_on device (On other) = device.0 == other.0
turns_on device other = false

-- is the device turned on at this very time?
abbrev pub is_turned_on_at : Scenario → DeviceId → ℕ → Bool
is_turned_on_at s device t = list_any (λ e. turns_on device e.what && amount e.time == t) s.events
