-- The time-triggered frames that a device took, by the records.
use Rattle.std.specs.{List.flat_map, Prelude.{if◌then◌else◌, ◌==◌, ◌∷◌, List, [], ℕ, ℤ}}
use Rattle.net_plan.specs.declared.ids.DeviceId.{DeviceId}
use Rattle.run_law.specs.{declared.note.NoteBody.NoteBody, device.LocalClocks.local_before, machines.Nodes.TakenFrame}
use Rattle.run_law.specs.{records.Happenings.{Happening, time_of}, scenario.Scenarios.Scenario}
use Rattle.run_law.specs.declared.note.NoteBody.TheVariants as notes

-- the frame that the device took by a record, while its local clock showed this, if it took one by it
abbrev pub taken_in : DeviceId → ℤ → NoteBody → List TakenFrame
taken_in device at (notes.Accepted other link cause vl cycle) =
    if device.0 == other.0 then record { vl = vl; cycle = cycle; at = at } ∷ [] else []
taken_in device at (notes.Delivered other link cause vl cycle) =
    if device.0 == other.0 then record { vl = vl; cycle = cycle; at = at } ∷ [] else []
taken_in device at other = []

-- the frames that the device took by records, where its local clock showed this at each time
abbrev pub taken_by : DeviceId → (ℕ → ℤ) → List Happening → List TakenFrame
taken_by device at hs = flat_map (λ h. taken_in device (at (time_of h)) h.note.body) hs

-- the frames that the device took, by the records
abbrev pub frames_taken : Scenario → List Happening → DeviceId → List TakenFrame
frames_taken s hs device = taken_by device (local_before s hs device) hs
