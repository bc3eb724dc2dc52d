-- What the records before a time, a list of them, tell of a device: each is a function of the scenario and the list.
use Rattle.std.specs.{List.{after_last, last_or}, Option.option_map_or, Prelude.{pos, ℕ, ℤ}}
use Rattle.std.specs.Prelude.{◌&&◌, ◌+ℤ◌, ◌+◌, ◌-◌, Bool, List, None, filter, if◌then◌else◌, int_le, int_lt, nat_lt}
use Rattle.net_plan.specs.declared.ids.DeviceId.{DeviceId}
use Rattle.run_law.specs.control.Corrections.{correction_value, is_integration_cycle, recorded_cycle}
use Rattle.run_law.specs.device.{LocalClocks.changes_adjustment, States.adjustment_after}
use Rattle.run_law.specs.{records.Happenings.{Happening, time_of}, scenario.Scenarios.Scenario}

-- when its adjustment changed last, by the records before a time
abbrev pub change_in : DeviceId → List Happening → ℕ
change_in device w = option_map_or time_of (last_or None (filter (λ h. changes_adjustment device h.note.body) w)) 0

-- what its clock showed then
abbrev pub local_in : Scenario → DeviceId → List Happening → ℤ
local_in s device w = pos (s.reading device (change_in device w)) +ℤ (adjustment_after s w device).0

-- has it cleared by then?
abbrev pub cleared_in : Scenario → DeviceId → List Happening → ℕ → Bool
cleared_in s device w by =
    is_integration_cycle w device
    && (int_lt (local_in s device w) (correction_value s.network (recorded_cycle w device))
    && int_le (correction_value s.network (recorded_cycle w device))
    (pos (s.reading device (by - 1)) +ℤ (adjustment_after s w device).0))

-- the cycle of its next correction point
abbrev pub next_in : Scenario → DeviceId → List Happening → ℕ → ℕ
next_in s device w t = if cleared_in s device w t then recorded_cycle w device + 1 else recorded_cycle w device

-- the records behind the last change of its adjustment before the time
abbrev pub since_at : DeviceId → ℕ → List Happening → List Happening
since_at device t hs = after_last (λ h. nat_lt (time_of h) t && changes_adjustment device h.note.body) hs
