-- Since when a device's clock stands as it does.
use Rattle.std.specs.{List.last_or, Option.option_map_or}
use Rattle.std.specs.Prelude.{Bool, List, None, Option, false, filter, negsuc, pos, true, ℕ, ℤ}
use Rattle.net_plan.specs.declared.ids.DeviceId.{DeviceId}
use Rattle.run_law.specs.{declared.note.NoteBody.NoteBody, device.{LocalClocks.changes_adjustment, States.cycle_in}}
use Rattle.run_law.specs.records.Happenings.{Happening, time_of}
use Rattle.sync_state.specs.declared.state.State.{State, TheVariants.{Integrating, Joining, Off, Synchronised}}
use Rattle.run_law.specs.declared.note.NoteBody.TheVariants as notes

-- has a device in this state a common time?
abbrev pub has_time : State → Bool
has_time Off = false
has_time Integrating = false
has_time Joining = true
has_time Synchronised = true

-- the last record that set the device's adjustment
abbrev pub last_setting : List Happening → DeviceId → Option Happening
last_setting hs device = last_or None (filter (λ h. changes_adjustment device h.note.body) hs)

-- the cycle for which the record sets it
abbrev pub cycle_set : Happening → NoteBody → ℕ
cycle_set h (notes.Corrected device cycle by adjustment) = cycle
cycle_set h other = cycle_in h

-- the cycle for which the device's adjustment was last set, which is 0 at the start
abbrev pub epoch_cycle : List Happening → DeviceId → ℕ
epoch_cycle hs device = option_map_or (λ h. cycle_set h h.note.body) (last_setting hs device) 0

-- when it was set; the start counts as before time 0
abbrev pub epoch_time : List Happening → DeviceId → ℤ
epoch_time hs device = option_map_or (λ h. pos (time_of h)) (last_setting hs device) (negsuc 0)

-- does the record correct a clock?
abbrev pub is_correction : NoteBody → Bool
is_correction (notes.Corrected device cycle by adjustment) = true
is_correction other = false

-- was it last set by a correction?
abbrev pub is_corrected : List Happening → DeviceId → Bool
is_corrected hs device = option_map_or (λ h. is_correction h.note.body) (last_setting hs device) false
