-- What a device's clock was last set to fixes since then.
use Rattle.std.specs.{Option.option_map_or, Prelude.{if◌then◌else◌, pos, true, ℕ, ℤ}}
use Rattle.std.specs.Prelude.{◌+ℤ◌, ◌+◌, ◌-ℤ◌, ◌<ℤ◌, ◌<◌, ◌≡◌, ◌≤ℤ◌, ◌≤◌, List, None, Option, Some, false}
use Rattle.{net_plan.specs.declared.ids.DeviceId.DeviceId, precision_law.specs.Blocks.{adjustment_left, state_left}}
use Rattle.precision_law.specs.Epochs.{cycle_set, epoch_cycle, epoch_time, has_time, is_corrected, is_correction}
use Rattle.precision_law.specs.{Epochs.last_setting, Readings.IsFirstRead, Views.{IsView, View}}
use Rattle.run_law.specs.{control.Corrections.{has_cleared, next_cycle, recorded_cycle}, scenario.Scenarios.Scenario}
use Rattle.run_law.specs.{device.LocalClocks.{Reaches, changed_at}, records.Happenings.{Happening, earlier}}
use Rattle.run_law.specs.{device.States.{adjustment_after, adjustment_with, cycle_in}, scenario.Devices.start_of}
use Rattle.{sync_state.specs.Standing.adjustment_at_start, tte_units.specs.declared.units.Units.Units}

-- the adjustment that the last record which set it shows, or that of the start
abbrev pub set_adjustment : Scenario → DeviceId → Option Happening → Units
set_adjustment s device last =
    option_map_or (λ h. adjustment_with s device (cycle_in h) (adjustment_at_start (start_of s.network device))
    h.note.body) last (adjustment_at_start (start_of s.network device))

-- the adjustment is that which was set last
abbrev pub AdjustmentIsLast : Type 0
AdjustmentIsLast =
    (s : Scenario) (hs : List Happening) (device : DeviceId) → adjustment_after s hs device ≡ set_adjustment s device
    (last_setting hs device)

-- the next cycle that the records show is the one behind that of a correction, or that of the frame of a joiner, or 1
abbrev pub next_of : Option Happening → ℕ
next_of None = 1
next_of (Some h) = if is_correction h.note.body then cycle_set h h.note.body + 1 else cycle_set h h.note.body

-- the records show it by the last setting of the clock
abbrev pub NextCycleIsOfLast : Type 0
NextCycleIsOfLast =
    (hs : List Happening) (device : DeviceId) → recorded_cycle hs device ≡ next_of (last_setting hs device)

-- where the clock was last set before u, it is the same from u to t
abbrev pub SettingsStay : Type 0
SettingsStay =
    (v : View) (device : DeviceId) (u t : ℕ) → IsView v → u ≤ t → epoch_time (earlier t v.records) device <ℤ pos u
    → last_setting (earlier u v.records) device ≡ last_setting (earlier t v.records) device

-- a device that has a common time before t has had one since its clock was last set
abbrev pub TimeStays : Type 0
TimeStays =
    (v : View) (device : DeviceId) (u t : ℕ) → IsView v → u ≤ t → epoch_time (earlier t v.records) device <ℤ pos u
    → has_time (state_left v device t) ≡ true → has_time (state_left v device u) ≡ true

-- the clock of a device reaches a value sharply
abbrev pub ClocksReachSharply : Type 0
ClocksReachSharply =
    (v : View) (device : DeviceId) (value : ℤ) (t : ℕ) → IsView v → Reaches v.scenario v.records device value t
    → IsFirstRead v.sizes (v.scenario.reading device) (changed_at v.records device t)
    (value -ℤ adjustment_left v device t) t

-- what it shows at t and did not at x, since its clock was set, it reached between
abbrev pub ClocksHaveReached : Type 0
ClocksHaveReached =
    (v : View) (device : DeviceId) (value : ℤ) (x t : ℕ) → IsView v → changed_at v.records device t ≤ x → x < t
    → (pos (v.scenario.reading device x) +ℤ adjustment_left v device t) <ℤ value
    → value ≤ℤ (pos (v.scenario.reading device t) +ℤ adjustment_left v device t)
    → (u : ℕ) × (x < u) × (u ≤ t) × Reaches v.scenario v.records device value u

-- the next correction point of a device is that of the cycle behind its clock's, or that of its clock's cycle where it
-- joined and has not cleared
pub record HasNumber (v : View) (device : DeviceId) (t : ℕ) : Type 0 where
  pub corrected : is_corrected (earlier t v.records) device ≡ true
      → next_cycle v.scenario v.records device t ≡ epoch_cycle (earlier t v.records) device + 1
  pub began : last_setting (earlier t v.records) device ≡ None → next_cycle v.scenario v.records device t ≡ 1
  pub waits : has_cleared v.scenario v.records device t t ≡ false → is_corrected (earlier t v.records) device ≡ false
      → (h : Happening) → last_setting (earlier t v.records) device ≡ Some h
      → next_cycle v.scenario v.records device t ≡ epoch_cycle (earlier t v.records) device
  pub cleared : has_cleared v.scenario v.records device t t ≡ true
      → next_cycle v.scenario v.records device t ≡ epoch_cycle (earlier t v.records) device + 1

-- it is so for each device, at each time
abbrev pub EpochsFixNumbers : Type 0
EpochsFixNumbers = (v : View) (device : DeviceId) (t : ℕ) → IsView v → HasNumber v device t
