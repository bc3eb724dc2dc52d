-- What is owed of the `send` events on ways that are cut: the record of the loss.
use Rattle.std.specs.Prelude.{◌≡◌, ◌≤◌, List, ℕ}
use Rattle.net_plan.specs.declared.ids.{DeviceId.DeviceId, LinkId.LinkId}
use Rattle.run_law.specs.{control.Losses.IsSendLost, declared.note.NoteBody.NoteBody}
use Rattle.run_law.specs.{records.Happenings.{Happening, time_of}, scenario.Scenarios.Scenario}
use Rattle.audit_law.specs.law.DueRecords.{IsDue}
use Rattle.run_law.specs.declared.note.NoteBody.TheVariants as notes

-- the record is due by the loss of a `send` event's octets
pub record IsDueBySend (s : Scenario) (before : List Happening) (x : Happening) : Type 0 where
  pub due : IsDue s before x
  pub device : DeviceId
  pub link : LinkId
  pub cause : ℕ
  pub lost : IsSendLost s before device (time_of x) link cause
  pub says : x.note.body ≡ notes.Lost device link cause

-- by the time, the record of this number is a `send` event whose way is cut
pub record OwesLoss (s : Scenario) (hs : List Happening) (until cause : ℕ) : Type 0 where
  pub device : DeviceId
  pub link : LinkId
  pub time : ℕ
  pub lost : IsSendLost s hs device time link cause
  pub timely : time ≤ until

-- the record says that what came from this record is lost
abbrev pub TellsLoss : ℕ → NoteBody → Type 0
TellsLoss cause (notes.Lost device link from) = from ≡ cause
TellsLoss cause other = ⊥
