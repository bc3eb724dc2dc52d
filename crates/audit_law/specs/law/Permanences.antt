-- What is owed of the frames that wait: each is permanent at its point, or is dropped there.
use Rattle.std.specs.Prelude.{◌≡◌, ◌≤◌, List, ℕ}
use Rattle.{audit_law.specs.law.DueRecords.IsDue, run_law.specs.{declared.steps.Ripe.Ripe, scenario.Scenarios.Scenario}}
use Rattle.{net_plan.specs.declared.ids.DeviceId.DeviceId, run_law.specs.records.Happenings.{Happening, time_of}}
use Rattle.{net_plan.specs.declared.ids.LinkId.LinkId, tte_units.specs.declared.units.Units.Units}
use Rattle.run_law.specs.{control.Permanence.{BecomesPermanent, IsPermanent}, declared.judgement.Reason.TheVariants.Old}
use Rattle.{run_law.specs.declared.note.NoteBody.NoteBody, tte_units.specs.declared.frames.pcf.Pcf.Pcf}
use Rattle.run_law.specs.declared.judgement.Judgement.TheVariants as judgements
use Rattle.run_law.specs.declared.note.NoteBody.TheVariants as notes
use Rattle.run_law.specs.declared.steps.Ripe.TheVariants as ripe

-- the record of what became at its point of the frame that arrived with the record of the number `cause`
abbrev pub permanence_record : DeviceId → LinkId → ℕ → Units → Ripe → NoteBody
permanence_record device link cause point ripe.Opened = notes.Permanent device link cause point judgements.Opened
permanence_record device link cause point ripe.Joined = notes.Permanent device link cause point judgements.Joined
permanence_record device link cause point ripe.Repeat = notes.Permanent device link cause point judgements.Repeat
permanence_record device link cause point ripe.Within = notes.Permanent device link cause point judgements.Within
permanence_record device link cause point ripe.Outside = notes.Permanent device link cause point judgements.Outside
permanence_record device link cause point ripe.Integrates =
    notes.Permanent device link cause point judgements.Integrates
permanence_record device link cause point ripe.Ignored = notes.Permanent device link cause point judgements.Ignored
permanence_record device link cause point (ripe.Dropped reason) = notes.Dropped device link cause reason

-- the record is due by a permanence
pub record IsDueByPermanence (s : Scenario) (before : List Happening) (x : Happening) : Type 0 where
  pub due : IsDue s before x
  pub device : DeviceId
  pub link : LinkId
  pub cause : ℕ
  pub point : Units
  pub is : Ripe
  pub becomes : BecomesPermanent s before device (time_of x) link cause point is
  pub says : x.note.body ≡ permanence_record device link cause point is

-- the frame that arrived with the record of this number is permanent by the time, at a device that waits for it and is
-- not broken then
pub record OwesPermanence (s : Scenario) (hs : List Happening) (until cause : ℕ) : Type 0 where
  pub device : DeviceId
  pub link : LinkId
  pub time : ℕ
  pub frame : Pcf
  pub point : Units
  pub permanent : IsPermanent s hs device time link cause frame point
  pub timely : time ≤ until

-- the record says what became of the frame of this record, later than its arrival; what is too old is so at its leaving
abbrev pub TellsPermanence : ℕ → NoteBody → Type 0
TellsPermanence cause (notes.Permanent device link from point verdict) = from ≡ cause
TellsPermanence cause (notes.Dropped device link from reason) = (from ≡ cause) × (reason ≡ Old → ⊥)
TellsPermanence cause other = ⊥
