-- How a world begins.
use Rattle.std.specs.Prelude.{◌*◌, ◌≡◌, ◌≤◌, All, List, Some, [], false, length, map, replicate, slice_get, true, ℕ}
use Rattle.{drift_world.specs.declared.state.State.State, run_law.specs.machines.Nodes.begun_node}
use Rattle.{net_plan.specs.declared.{ids.DeviceId.DeviceId, network.Network.Network}, tte_units.specs.Amount.amount}
use Rattle.world_state.specs.{Beginning.first_way, Keeping.sound_one, timers.Times.unset}
use Rattle.world_state.specs.Keeping.{Meaning}

-- there is a machine for each device, which has just begun
pub record AreFresh {M : Type 0} (stands : Meaning M) (network : Network) (machines : List M) : Type 0 where
  pub each : length machines ≡ length network.device
  pub begun : (device : DeviceId) (machine : M) → slice_get machines device.0 ≡ Some machine
      → stands machine network device (begun_node network device)

-- the state as it is at first: fresh clocks, machines that have just begun, nothing broken, and nothing under way
pub record IsFirstState {C M : Type 0} (fresh : ℕ → C) (last_step : C → ℕ) (network : Network) (begun : List M)
    (state : State C M) : Type 0 where
  pub clocks : state.clocks.items ≡ replicate (length network.device) (fresh (amount network.grain))
  pub unstepped : All (λ (c : C). last_step c ≤ 0) state.clocks.items
  pub machines : state.machines.items ≡ map sound_one begun
  pub broken : state.broken.items ≡ replicate (length network.device) false
  pub ups : state.ups.items ≡ map first_way network.link
  pub downs : state.downs.items ≡ map first_way network.link
  pub under_way : state.under_way.entries ≡ []
  pub waiting : state.waiting.items ≡ []
  pub stored : state.stored.items ≡ []
  pub befell : state.befell.items ≡ []
  pub settled : state.settled.items ≡ []
  pub timers : state.timers ≡ replicate (2 * length network.device) unset
  pub early : state.early ≡ true
  pub pending : state.pending ≡ false
  pub time : state.time ≡ 0
  pub lines : state.lines ≡ 0
  pub given : state.given ≡ 0
  pub ended : state.ended ≡ false
  pub shown : state.shown ≡ 0
