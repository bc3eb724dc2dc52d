-- Scenarios that agree up to a time: of one network, with the same readings and the same events up to then.
use Rattle.std.specs.Prelude.{◌≡◌, ◌≤◌, List, ℕ}
use Rattle.net_plan.specs.declared.{event.Event.Event, ids.DeviceId.DeviceId, network.Network.Network}
use Rattle.run_law.specs.scenario.Scenarios.{Scenario, events_up_to}

-- the scenario of the network with these readings and these events
abbrev pub scenario : Network → (DeviceId → ℕ → ℕ) → List Event → Scenario
scenario network reading events = record { network = network; reading = reading; events = events }

-- both read the same, and have the same events, up to the time
pub record Agree (network : Network) (reading other : DeviceId → ℕ → ℕ) (events more : List Event)
    (t : ℕ) : Type 0 where
  pub reads : (device : DeviceId) (x : ℕ) → x ≤ t → reading device x ≡ other device x
  pub befell : (u : ℕ) → u ≤ t → events_up_to (scenario network reading events) u ≡ events_up_to
      (scenario network other more) u
