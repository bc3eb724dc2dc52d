-- The first of the frames that wait at a device and are reached.
use Rattle.drift_world.proofs.Words.{◌≡◌, ◌≤ℤ◌, DeviceId, IfNone, IfSome, IsIn, None, Option, Some, Waits, arith, pos, ripe_place, waiting_as, ℕ}
use Rattle.{drift_world.specs.Ripening.IsFirstRipe, net_plan.proofs.SameIds.same_device, std.proofs.Common.slice_get}
use Rattle.{drift_world.specs.declared.state.State.State, world_law.proofs.giving.GivenParts.some_same, world_state.specs.Reaching.IsFirstReached}

module _ {C M : Type 0} (reading : C → ℕ → ℕ) (state : State C M) (device : DeviceId) {now : ℕ} {clock : C}
    (own : slice_get state.clocks.items device.0 ≡ Some clock) (read : now ≡ reading clock state.time) where
  -- so it is of all that wait
  pub first_ripe : (result : Option Waits) → IsFirstReached state.waiting device now result
      → IfSome result (λ one. IsFirstRipe reading state device one)
  first_ripe None is = tt
  first_ripe (Some w) first = grind (arith, same_device, ripe_place, waiting_as)

  pub none_ripe : (result : Option Waits) → IsFirstReached state.waiting device now result
      → IfNone result ((w : Waits) (k : C) → IsIn w state.waiting.items → w.device ≡ device
      → slice_get state.clocks.items device.0 ≡ Some k → w.point.0 ≤ℤ pos (reading k state.time) → ⊥)
  none_ripe (Some w) is = tt
  none_ripe None is = grind (arith, some_same)
