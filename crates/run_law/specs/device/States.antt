-- The state and the adjustment of a device, as the records show them.
use Rattle.std.specs.{List.list_any, Option.option_map_or}
use Rattle.std.specs.Prelude.{if◌then◌else◌, ◌&&◌, ◌-ℤ◌, ◌==◌, ◌||◌, Bool, List, false, filter, fold, nat_lt, true, ℕ}
use Rattle.{net_plan.specs.declared.ids.DeviceId.DeviceId, tte_units.specs.declared.units.Units.Units}
use Rattle.run_law.specs.declared.{judgement.Judgement.TheVariants.Integrates, note.NoteBody.NoteBody}
use Rattle.run_law.specs.records.Happenings.{Happening, earlier, time_of}
use Rattle.run_law.specs.scenario.{Devices.{plan_of, start_of}, Scenarios.{Scenario, is_turned_on_at}}
use Rattle.sync_state.specs.{Plan.expected_at, Standing.{adjustment_at_start, state_at_start}}
use Rattle.sync_state.specs.declared.state.State.{State, TheVariants.{Integrating, Joining, Off, Synchronised}}
use Rattle.run_law.specs.declared.note.NoteBody.TheVariants as notes

-- is the device off?
abbrev pub is_off : State → Bool
is_off Off = true
is_off other = false

-- does it have the common time?
abbrev pub is_synchronised : State → Bool
is_synchronised Synchronised = true
is_synchronised other = false

-- does the record say that a frame tells the device the time?
abbrev pub is_joined_by : DeviceId → NoteBody → Bool
is_joined_by device (notes.Permanent other link cause point Integrates) = device.0 == other.0
is_joined_by device (notes.Compressed other opened at cycle members Integrates) = device.0 == other.0
is_joined_by device other = false

-- the state that a record leaves the device in
abbrev pub state_with : DeviceId → State → NoteBody → State
state_with device old (notes.State other state cause why) = if device.0 == other.0 then state else old
state_with device old body = if is_joined_by device body then Joining else old

-- the adjustment by which the device's clock shows at the point what is expected there of the frame of this cycle
abbrev pub joined_adjustment : Scenario → DeviceId → ℕ → Units → Units
joined_adjustment s device cycle point = record { 0 = expected_at (plan_of s.network device) cycle -ℤ point.0 }

-- the cycle of a record's frame
abbrev pub cycle_in : Happening → ℕ
cycle_in h = option_map_or (λ frame. frame.cycle) h.frame 0

-- the adjustment that a record leaves the device with; `cycle` is that of its frame
abbrev pub adjustment_with : Scenario → DeviceId → ℕ → Units → NoteBody → Units
adjustment_with s device cycle old (notes.Corrected other number by adjustment) =
    if device.0 == other.0 then adjustment else old
adjustment_with s device cycle old (notes.Permanent other link cause point Integrates) =
    if device.0 == other.0 then joined_adjustment s device cycle point else old
adjustment_with s device cycle old (notes.Compressed other opened at own members Integrates) =
    if device.0 == other.0 then joined_adjustment s device own at else old
adjustment_with s device cycle old other = old

-- the device's state after these records: at first synchronised, or off where it begins off
abbrev pub state_after : Scenario → List Happening → DeviceId → State
state_after s hs device =
    fold (λ state h. state_with device state h.note.body) (state_at_start (start_of s.network device)) hs

-- its adjustment after these records: at first its start, or 0 where it begins off
abbrev pub adjustment_after : Scenario → List Happening → DeviceId → Units
adjustment_after s hs device =
    fold (λ adjustment h. adjustment_with s device (cycle_in h) adjustment h.note.body)
    (adjustment_at_start (start_of s.network device)) hs

-- its state when something comes at this time: after the records of earlier times and the events of this one
abbrev pub state_before : Scenario → List Happening → DeviceId → ℕ → State
state_before s hs device t = if is_turned_on_at s device t then Integrating else state_after s (earlier t hs) device

-- its adjustment when something comes at this time: after the records of earlier times
abbrev pub adjustment_before : Scenario → List Happening → DeviceId → ℕ → Units
adjustment_before s hs device t = adjustment_after s (earlier t hs) device

-- has a frame told the device the time at this very time?
abbrev pub has_joined_at : List Happening → DeviceId → ℕ → Bool
has_joined_at hs device t = list_any (λ h. time_of h == t && is_joined_by device h.note.body) hs

-- its state when it hears a frame at this time: frames that it heard before at this time may have told it the time
abbrev pub state_at_hearing : Scenario → List Happening → DeviceId → ℕ → State
state_at_hearing s hs device t = if has_joined_at hs device t then Joining else state_before s hs device t

-- its adjustment when it hears a frame at this time
abbrev pub adjustment_at_hearing : Scenario → List Happening → DeviceId → ℕ → Units
adjustment_at_hearing s hs device t =
    adjustment_after s (filter (λ h. nat_lt (time_of h) t || is_joined_by device h.note.body) hs) device
