-- The first of the frames that wait at a device and are reached.
use Rattle.std.specs.Prelude.{◌≡◌, None, Option, Some, ℕ}
use Rattle.{net_plan.specs.declared.ids.DeviceId.DeviceId, run_law.specs.records.Order.{IsBefore, IsIn}}
use Rattle.world_state.specs.Frames.{Waiting, first_of}
use Rattle.world_state.specs.{Ripening.{IsReached, ripe_numbers}, declared.contents.Waits.Waits}

-- it is the first of its device and reached, and no other that is reached is before it
pub record IsFirstOf (waiting : Waiting) (device : DeviceId) (reading : ℕ) (w : Waits) : Type 0 where
  pub there : IsIn w waiting.items
  pub is : first_of waiting device.0 ≡ Some w
  pub reached : IsReached device reading w
  pub none : (v : Waits) → IsIn v waiting.items → IsReached device reading v
      → IsBefore (ripe_numbers v) (ripe_numbers w) → ⊥

-- it is the first that is reached; or none is
abbrev pub IsFirstReached : Waiting → DeviceId → ℕ → Option Waits → Type 0
IsFirstReached waiting device reading None = (v : Waits) → IsIn v waiting.items → IsReached device reading v → ⊥
IsFirstReached waiting device reading (Some w) = IsFirstOf waiting device reading w
