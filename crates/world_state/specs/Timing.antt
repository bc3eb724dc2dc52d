-- When a clock reaches what a device waits for.
use Rattle.std.specs.Prelude.{◌<ℤ◌, ◌<◌, ◌^◌, ◌≡◌, ◌≤ℤ◌, ◌≤◌, ◌⊎◌, List, None, Option, Some, pos, ℕ}
use Rattle.{run_law.specs.records.Order.IsIn, world_state.specs.timers.Times.never}
use Rattle.{tte_units.specs.declared.units.Units.Units, world_state.specs.declared.contents.Waits.Waits}

-- the least point of the frames that wait at the device, where one does
abbrev pub IsLeastPoint : List Waits → ℕ → Option Units → Type 0
IsLeastPoint waiting device None = (w : Waits) → IsIn w waiting → w.device.0 ≡ device → ⊥
IsLeastPoint waiting device (Some point) =
    ((w : Waits) × IsIn w waiting × (w.device.0 ≡ device) × (w.point ≡ point))
    × ((w : Waits) → IsIn w waiting → w.device.0 ≡ device → point.0 ≤ℤ w.point.0)

-- from now on the clock reads so much at the time, and not before
pub record IsReachedAt {C : Type 0} (reading : C → ℕ
    → ℕ) (clock : C) (now : ℕ) (value : Units) (time : ℕ) : Type 0 where
  pub from_now : now ≤ time
  pub true_time : time < never
  pub reached : value.0 ≤ℤ pos (reading clock time)
  pub not_before : (x : ℕ) → now ≤ x → x < time → pos (reading clock x) <ℤ value.0

-- it is the time at which the clock reads so much: never, where this is nothing, or is above all readings of a run
abbrev pub IsTimeFor : {C : Type 0} → (C → ℕ → ℕ) → C → ℕ → Option Units → ℕ → Type 0
IsTimeFor reading clock now None time = time ≡ never
IsTimeFor reading clock now (Some value) time =
    ((time ≡ never) × (pos (2 ^ 61) <ℤ value.0)) ⊎ IsReachedAt reading clock now value time
