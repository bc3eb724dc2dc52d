-- The first of the frames that wait at a device.
use Rattle.std.specs.Prelude.{◌≡◌, ◌≤ℤ◌, Some, pos, slice_get, ℕ}
use Rattle.{drift_world.specs.declared.state.State.State, world_law.specs.world.World.ripe_place}
use Rattle.{net_plan.specs.declared.ids.DeviceId.DeviceId, world_state.specs.declared.contents.Waits.Waits}
use Rattle.run_law.specs.{declared.steps.Ripe.{Ripe, TheVariants.Dropped}, records.Order.{IsBefore, IsIn}}
use Rattle.world_state.specs.{Frames.first_of, Views.waiting_as}

-- the frame waits at the device, its clock reads its point or more, and none such is before it
pub record IsFirstRipe {C M : Type 0} (reading : C → ℕ
    → ℕ) (state : State C M) (device : DeviceId) (one : Waits) : Type 0 where
  pub there : IsIn one state.waiting.items
  pub is : first_of state.waiting device.0 ≡ Some one
  pub at : one.device ≡ device
  pub clock : C
  pub own : slice_get state.clocks.items device.0 ≡ Some clock
  pub reached : one.point.0 ≤ℤ pos (reading clock state.time)
  pub none : (w : Waits) → IsIn w state.waiting.items → w.device ≡ device → w.point.0 ≤ℤ pos (reading clock state.time)
      → IsBefore (ripe_place state.time (waiting_as w)) (ripe_place state.time (waiting_as one)) → ⊥

-- the first record of what becomes of it is how it is judged
abbrev pub IsJudged : Ripe → Type 0
IsJudged (Dropped reason) = ⊥
IsJudged other = Unit {0}
