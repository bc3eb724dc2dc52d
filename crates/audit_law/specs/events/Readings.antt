-- What the clocks read under events.
use Rattle.std.specs.Prelude.{◌+◌, ◌<◌, ◌^◌, ◌≡◌, ◌≤ℤ◌, ◌≤◌, All, List, pos, ℕ}
use Rattle.drift_clock.specs.{Readings.reading_at, Segment.{fresh_segment, segment_reading, stepped_segment}}
use Rattle.net_plan.specs.{Ranges.IsInRange, declared.{event.Event.Event, ids.DeviceId.DeviceId}}
use Rattle.{net_plan.specs.declared.network.Network.Network, run_law.specs.scenario.Hypothesis.AreWithinHypothesis}
use Rattle.{run_law.specs.scenario.{Rates.rate_steps, Scenarios.Scenario}, tte_units.specs.Amount.amount}

-- what the clock of a device reads at a time, under the rates that the events set
abbrev pub clock_reading : Network → List Event → DeviceId → ℕ → ℕ
clock_reading network events device time =
    reading_at stepped_segment segment_reading (fresh_segment (amount network.grain)) (rate_steps events device) time

-- the network under these events
abbrev pub scenario_under : Network → List Event → Scenario
scenario_under network events = record { network = network; reading = clock_reading network events; events = events }

-- no event comes before time 0
abbrev pub HaveBegun : List Event → Type 0
HaveBegun events = All (λ e. pos 0 ≤ℤ e.time.0) events

-- the reading begins at 0, never falls, stays within its bound up to 2^60, and goes on by less than a cycle in a unit
-- of time
pub record ReadsOn (reading : ℕ → ℕ) : Type 0 where
  pub begins : reading 0 ≡ 0
  pub never_falls : (s t : ℕ) → s ≤ t → reading s ≤ reading t
  pub bound : (t : ℕ) → t ≤ 2 ^ 60 → reading t ≤ 2 ^ 60 + 2 ^ 51
  pub step : (t : ℕ) → reading (t + 1) < reading t + 2 ^ 32

-- under events within the hypothesis each clock of a network in range reads on
abbrev pub ClocksReadOn : Type 0
ClocksReadOn =
    (network : Network) (events : List Event) (device : DeviceId) → IsInRange network
    → AreWithinHypothesis network events
    → HaveBegun events → ReadsOn (clock_reading network events device)
