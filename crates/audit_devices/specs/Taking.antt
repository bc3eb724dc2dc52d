-- The time-triggered frames that records say were taken.
use Rattle.std.specs.{List.Sorted.IsPartitionedBy, Prelude.{option_and_then, ℕ}}
use Rattle.std.specs.Prelude.{◌&&◌, ◌==◌, ◌∷◌, Bool, List, None, Option, Some, [], filter_map, if◌then◌else◌}
use Rattle.net_plan.specs.declared.ids.{DeviceId.DeviceId, LinkId.LinkId, VlId.VlId}
use Rattle.run_law.specs.{declared.note.NoteBody.NoteBody, records.{Happenings.{Happening, time_of}, Order.is_before}}
use Rattle.audit_devices.specs.declared.taking.{Taken.Taken, Taking.Taking}
use Rattle.run_law.specs.declared.note.NoteBody.TheVariants as notes

-- the frame that was taken so
abbrev pub taken_as : ℕ → ℕ → DeviceId → LinkId → ℕ → VlId → ℕ → Taken
taken_as time number device link cause vl cycle = record {
  device = device;
  vl = vl;
  taking = record { time = time; link = link; cause = cause; number = number; cycle = cycle };
}

-- the frame that a record of this time, number and body says was taken
abbrev pub taken_by : ℕ → ℕ → NoteBody → Option Taken
taken_by time number (notes.Accepted device link cause vl cycle) =
    Some (taken_as time number device link cause vl cycle)
taken_by time number (notes.Delivered device link cause vl cycle) =
    Some (taken_as time number device link cause vl cycle)
taken_by time number other = None

-- the same, where it is one of the virtual link that the device took
abbrev pub taken_at : DeviceId → VlId → Taken → Option Taking
taken_at device vl taken = if device.0 == taken.device.0 && vl.0 == taken.vl.0 then Some taken.taking else None

-- the frame of the virtual link that a record says the device took
abbrev pub taking_of : DeviceId → VlId → Happening → Option Taking
taking_of device vl h = option_and_then (taken_at device vl) (taken_by (time_of h) h.note.number h.note.body)

-- the frames of the virtual link that the device took
abbrev pub takings_of : List Happening → DeviceId → VlId → List Taking
takings_of hs device vl = filter_map (taking_of device vl) hs

-- when it came, by which link and from which record
abbrev pub coming_of : Taking → List ℕ
coming_of taking = taking.time ∷ taking.link.0 ∷ taking.cause ∷ []

-- did it come before a frame of this link and cause at the time?
abbrev pub is_taking_before : ℕ → LinkId → ℕ → Taking → Bool
is_taking_before t link cause taking = is_before (coming_of taking) (t ∷ link.0 ∷ cause ∷ [])

-- those that came before any frame are the first
abbrev pub AscendAll : List Taking → Type 0
AscendAll takings = (t : ℕ) (link : LinkId) (cause : ℕ) → IsPartitionedBy (is_taking_before t link cause) takings
