-- What a world keeps from call to call.
use Rattle.std.specs.Prelude.{ℕ}
use Rattle.drift_world.specs.{Sound.IsSound, Sourcing.AreTimed, Stepping.IsRunning, declared.state.State.State}
use Rattle.net_plan.specs.declared.network.Network.{Network}
use Rattle.world_state.specs.Keeping.{Meaning}

-- the state is sound, some scenario and records leave it where it stands, and its timers are right
pub record IsWell {C M : Type 0} (last_step : C → ℕ) (reading : C → ℕ → ℕ) (stands : Meaning M) (network : Network)
    (state : State C M) : Type 0 where
  pub sound : IsSound last_step network state
  pub running : IsRunning reading stands network state
  pub timed : AreTimed reading stands network state
