-- The leavings of control frames that a list of records owes.
use Rattle.std.specs.Prelude.{◌+◌, ◌≡◌, ◌≤◌, List, Some, false, ℕ}
use Rattle.audit_law.specs.law.DueRecords.{IsDue}
use Rattle.{net_plan.specs.declared.ids.DeviceId.DeviceId, run_law.specs.scenario.Scenarios.{Scenario, is_broken}}
use Rattle.{net_plan.specs.declared.ids.LinkId.LinkId, tte_units.specs.declared.frames.pcf.Pcf.Pcf}
use Rattle.run_law.specs.control.Leaving.{Departs, Departure, Gives, leaves, on_cut_way, too_old}
use Rattle.run_law.specs.{declared.judgement.Reason.TheVariants.Old, records.Happenings.{Happening, numbered, time_of}}
use Rattle.run_law.specs.{declared.note.NoteBody.NoteBody, scenario.Ways.{hold_at, way_from}}
use Rattle.run_law.specs.declared.note.NoteBody.TheVariants as notes

-- when the frame of a record leaves that the device gave to the link
abbrev pub leaves_at : Scenario → DeviceId → LinkId → Happening → ℕ
leaves_at s device link giving = time_of giving + hold_at s link (way_from s.network device link) (time_of giving)

-- the frame of the record of this number was given to the link, and leaves by the time, unless its device is broken
pub record OwesDeparture (s : Scenario) (hs : List Happening) (until cause : ℕ) (link : LinkId) : Type 0 where
  pub giving : Happening
  pub there : numbered hs cause ≡ Some giving
  pub device : DeviceId
  pub gives : Gives s.network giving.note.body device link
  pub frame : Pcf
  pub of_frame : giving.frame ≡ Some frame
  pub correct : is_broken s device (leaves_at s device link giving) ≡ false
  pub timely : leaves_at s device link giving ≤ until

-- the record of what became at its leaving of the frame that the record with the number `cause` gave to the link
abbrev pub leaving_record : DeviceId → LinkId → ℕ → Departure → NoteBody
leaving_record device link cause (leaves clock) = notes.Left device link cause clock
leaving_record device link cause on_cut_way = notes.Lost device link cause
leaving_record device link cause too_old = notes.Dropped device link cause Old

-- the record is due by a leaving
pub record IsDueByLeaving (s : Scenario) (before : List Happening) (x : Happening) : Type 0 where
  pub due : IsDue s before x
  pub device : DeviceId
  pub link : LinkId
  pub cause : ℕ
  pub is : Departure
  pub departs : Departs s before device (time_of x) link cause is
  pub says : x.note.body ≡ leaving_record device link cause is

-- the record says what became of the frame of this record at its leaving by this link
abbrev pub TellsDeparture : ℕ → LinkId → NoteBody → Type 0
TellsDeparture cause link (notes.Left device by from clock) = (by ≡ link) × (from ≡ cause)
TellsDeparture cause link (notes.Lost device by from) = (by ≡ link) × (from ≡ cause)
TellsDeparture cause link (notes.Dropped device by from reason) = (by ≡ link) × (from ≡ cause) × (reason ≡ Old)
TellsDeparture cause link other = ⊥
