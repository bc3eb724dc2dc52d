-- What the laws on runs ask of a network and of the events that befall it.
use Rattle.std.specs.{List.All, Prelude.{List, fold, ℕ, ℤ}}
use Rattle.{drift_clock.specs.Readings.{reading_at, value_after}, run_law.specs.scenario.Hypothesis.AreWithinHypothesis}
use Rattle.{net_plan.specs.{Belonging.IsOfNetwork, Ranges.IsInRange}, schedule_tables.specs.Rules.KeepsRules}
use Rattle.net_plan.specs.declared.{event.Event.Event, ids.DeviceId.DeviceId, network.Network.Network}
use Rattle.{run_law.specs.law.FirstLaws.IsEventInRange, tte_units.specs.declared.units.Units.Units}
use Rattle.{run_law.specs.scenario.{Rates.rate_steps, Scenarios.Scenario}, tte_units.specs.Amount.{amount, units_of}}

-- the network is accepted; each event is of its devices and links, has no negative times, and is within the fault
-- hypothesis, given those before it
pub record IsUnder (network : Network) (events : List Event) : Type 0 where
  pub range : IsInRange network
  pub rules : KeepsRules network
  pub of_network : All (λ e. IsOfNetwork network e.what) events
  pub times : All IsEventInRange events
  pub within : AreWithinHypothesis network events

-- what the rates that the events set make of a device's clock
abbrev pub clock_of : {C : Type 0} → (ℕ → C) → (C → ℕ → ℤ → C) → Network → List Event → DeviceId → C
clock_of fresh after_step network events device =
    value_after after_step (fresh (amount network.grain)) (rate_steps events device)

-- what a device's clock reads at a time, under the rates that the events set
abbrev pub reading_of : {C : Type 0} → (ℕ → C) → (C → ℕ → ℤ → C) → (C → ℕ → ℕ) → Network → List Event → DeviceId → ℕ → ℕ
reading_of fresh after_step reading network events device time =
    reading_at after_step reading (fresh (amount network.grain)) (rate_steps events device) time

-- the time of the last event, or 0
abbrev pub last_time : List Event → Units
last_time events = fold (λ before event. event.time) (units_of 0) events

-- the network under the events, where each device has such a clock, at the rates that the events set
abbrev pub scenario_of : {C : Type 0} → (ℕ → C) → (C → ℕ → ℤ → C) → (C → ℕ → ℕ) → Network → List Event → Scenario
scenario_of fresh after_step reading network events =
    record { network = network; reading = reading_of fresh after_step reading network events; events = events }
