-- The local clocks of a run, and when they reach a value.
use Rattle.std.specs.{List.last_or, Option.option_map_or}
use Rattle.std.specs.Prelude.{◌&&◌, ◌+ℤ◌, ◌-ℤ◌, ◌-◌, ◌<ℤ◌, ◌==◌, Bool, List, None, filter, int_le, int_lt, pos, ℕ, ℤ}
use Rattle.drift_clock.specs.Reach.{IsReach}
use Rattle.{net_plan.specs.declared.ids.DeviceId.DeviceId, run_law.specs.scenario.Scenarios.Scenario}
use Rattle.run_law.specs.{declared.note.NoteBody.NoteBody, records.Happenings.{Happening, earlier, time_of, up_to}}
use Rattle.run_law.specs.device.States.{adjustment_after, adjustment_before, is_joined_by}
use Rattle.run_law.specs.declared.note.NoteBody.TheVariants as notes

-- the local clock of the device at a time: its reading and its adjustment
abbrev pub local : Scenario → List Happening → DeviceId → ℕ → ℤ
local s hs device t = pos (s.reading device t) +ℤ (adjustment_after s (up_to t hs) device).0

-- the same when something comes at this time, before the corrections of this time
abbrev pub local_before : Scenario → List Happening → DeviceId → ℕ → ℤ
local_before s hs device t = pos (s.reading device t) +ℤ (adjustment_before s hs device t).0

-- does the record change the device's adjustment? A correction by 0 is such a change too
abbrev pub changes_adjustment : DeviceId → NoteBody → Bool
changes_adjustment device (notes.Corrected other cycle by adjustment) = device.0 == other.0
changes_adjustment device body = is_joined_by device body

-- when the device's adjustment last changed before the time, or 0
abbrev pub changed_at : List Happening → DeviceId → ℕ → ℕ
changed_at hs device t =
    option_map_or time_of (last_or None (filter (λ h. changes_adjustment device h.note.body) (earlier t hs))) 0

-- the local clock of the device right after that change
abbrev pub local_at_change : Scenario → List Happening → DeviceId → ℕ → ℤ
local_at_change s hs device t = pos (s.reading device (changed_at hs device t)) +ℤ (adjustment_before s hs device t).0

-- the device's clock reaches v at this time: right after the last change of its adjustment it was below v, and
-- this is the least time from then on at which it is not. What a change has passed is not reached by it
pub record Reaches (s : Scenario) (hs : List Happening) (device : DeviceId) (v : ℤ) (t : ℕ) : Type 0 where
  pub below : local_at_change s hs device t <ℤ v
  pub reach : IsReach (s.reading device) (pos (changed_at hs device t)) (v -ℤ (adjustment_before s hs device t).0)
      (pos t)

-- since the last change of the device's adjustment before t, has its clock come to v before the time `by`?
abbrev pub had_come : Scenario → List Happening → DeviceId → ℤ → ℕ → ℕ → Bool
had_come s hs device v t by =
    int_lt (local_at_change s hs device t) v
    && int_le v (pos (s.reading device (by - 1)) +ℤ (adjustment_before s hs device t).0)
