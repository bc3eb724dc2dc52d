-- What the parts of a state show of a scenario.
use Rattle.std.specs.Prelude.{◌<◌, ◌≡◌, Some, length, map, slice_get, ℕ}
use Rattle.{drift_world.specs.declared.state.State.State, world_state.specs.Views.way_as}
use Rattle.{net_plan.specs.declared.ids.DeviceId.DeviceId, world_law.specs.world.World.{AreWays, IsClockOf}}
use Rattle.{net_plan.specs.declared.network.Network.Network, run_law.specs.scenario.Scenarios.{Scenario, is_broken}}

-- the clocks, the ways and what is broken are those of the scenario
pub record IsOf {C M : Type 0} (reading : C → ℕ
    → ℕ) (s : Scenario) (network : Network) (state : State C M) : Type 0 where
  pub same : network ≡ s.network
  pub clocks : (device : DeviceId) → device.0 < length s.network.device → (clock : C)
      × (slice_get state.clocks.items device.0 ≡ Some clock) × IsClockOf reading s state.time device clock
  pub broken : (device : DeviceId) → device.0 < length s.network.device
      → slice_get state.broken.items device.0 ≡ Some (is_broken s device state.time)
  pub ways : AreWays s state.time (map way_as state.ups.items) (map way_as state.downs.items)
