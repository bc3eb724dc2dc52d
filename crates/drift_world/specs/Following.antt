-- How the clocks of a network go on by an event.
use Rattle.std.specs.Prelude.{◌++◌, ◌∷◌, ◌≡◌, ◌≤ℤ◌, ◌≤◌, List, Some, [], pos, slice_get, ℕ, ℤ}
use Rattle.{drift_world.specs.declared.state.State.State, world_law.specs.source.Agreeing.scenario}
use Rattle.net_plan.specs.declared.{event.Event.Event, ids.DeviceId.DeviceId, network.Network.Network}
use Rattle.{run_law.specs.records.Order.IsIn, tte_units.specs.Amount.amount}
use Rattle.{world_law.specs.{device.Ready.IsSteady, world.World.IsForward}, world_state.specs.Applying.clock_after}

-- up to the present time the clocks read what they read, and from then on what the event makes of them
pub record Follows {C M : Type 0} (after_step : C → ℕ → ℤ → C) (reading : C → ℕ → ℕ) (network : Network) (f g : DeviceId
    → ℕ → ℕ)
    (past : List Event) (event : Event) (state : State C M) : Type 0 where
  pub begun : (e : Event) → IsIn e past → pos 0 ≤ℤ e.time.0
  pub same : (device : DeviceId) (x : ℕ) → x ≤ state.time → g device x ≡ f device x
  pub steady : (device : DeviceId) → IsSteady (g device) (amount network.precision)
  pub reads : (device : DeviceId) (clock : C) → slice_get state.clocks.items device.0 ≡ Some clock → (t : ℕ)
      → state.time ≤ t
      → g device t ≡ reading (clock_after after_step device event.time event.what clock) t
  pub forward : IsForward (scenario network g (past ++ event ∷ []))
