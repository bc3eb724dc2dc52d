-- What the record that a change of state comes from says.
use Rattle.std.specs.Prelude.{if◌then◌else◌, ◌==◌, List, None, Option, Some, ℕ}
use Rattle.{audit_devices.specs.declared.clocks.changing.Bringer.Bringer, run_law.specs.device.States.is_joined_by}
use Rattle.net_plan.specs.declared.{event.What.TheVariants.On, ids.DeviceId.DeviceId}
use Rattle.run_law.specs.{declared.note.NoteBody.NoteBody, records.Happenings.{Happening, numbered, time_of}}
use Rattle.audit_devices.specs.declared.clocks.changing.Bringer.TheVariants as bringers
use Rattle.run_law.specs.declared.note.NoteBody.TheVariants as notes

-- what the record is to the device's state: that it is turned on, that a frame tells it the time, that its clock is
-- corrected, or none of these
abbrev pub bringer_as : DeviceId → NoteBody → Bringer
bringer_as device (notes.Event line (On other)) = if device.0 == other.0 then bringers.TurnsOn else bringers.Other
bringer_as device (notes.Corrected other cycle by adjustment) =
    if device.0 == other.0 then bringers.Corrects else bringers.Other
bringer_as device body = if is_joined_by device body then bringers.Joins else bringers.Other

-- the same of a record, where it is of this time
abbrev pub bringer_at : DeviceId → ℕ → Option Happening → Bringer
bringer_at device t None = bringers.Other
bringer_at device t (Some h) = if time_of h == t then bringer_as device h.note.body else bringers.Other

-- the same of the record of this number
abbrev pub bringer_of : List Happening → DeviceId → ℕ → ℕ → Bringer
bringer_of hs device t cause = bringer_at device t (numbered hs cause)
