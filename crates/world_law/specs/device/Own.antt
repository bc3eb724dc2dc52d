-- The records of one device.
use Rattle.std.specs.Prelude.{◌<◌, ◌==◌, ◌≡◌, ◌≤◌, Bool, List, false, filter, ℕ}
use Rattle.{net_plan.specs.declared.ids.DeviceId.DeviceId, run_law.specs.records.Happenings.{Happening, time_of}}
use Rattle.run_law.specs.{declared.note.NoteBody.NoteBody, device.States.is_joined_by, records.Order.IsIn}
use Rattle.run_law.specs.declared.note.NoteBody.TheVariants as notes

-- may the record bear on where the device stands? Those of arrivals, of leaving and of clocks bear on no device
abbrev pub bears_on : DeviceId → NoteBody → Bool
bears_on device (notes.Permanent other link cause point verdict) = device.0 == other.0
bears_on device (notes.Compressed other opened at cycle members verdict) = device.0 == other.0
bears_on device (notes.Corrected other cycle by adjustment) = device.0 == other.0
bears_on device (notes.State other state cause why) = device.0 == other.0
bears_on device other = false

-- may it change the device's state, its adjustment, or the cycle of its next correction point? What it merely hears and
-- collects does not
abbrev pub moves : DeviceId → NoteBody → Bool
moves device (notes.Corrected other cycle by adjustment) = device.0 == other.0
moves device (notes.State other state cause why) = device.0 == other.0
moves device other = is_joined_by device other

-- the records that move the device
abbrev pub own : DeviceId → List Happening → List Happening
own device hs = filter (λ h. moves device h.note.body) hs

-- no record from one time to another moves the device
abbrev pub IsStill : List Happening → DeviceId → ℕ → ℕ → Type 0
IsStill hs device t later =
    (h : Happening) → IsIn h hs → t ≤ time_of h → time_of h < later → moves device h.note.body ≡ false

-- the records that bear on the device
abbrev pub borne : DeviceId → List Happening → List Happening
borne device hs = filter (λ h. bears_on device h.note.body) hs
