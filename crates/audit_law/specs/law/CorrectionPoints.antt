-- What is owed of correction points: the correction of the clock, or the state that a clique brings.
use Rattle.std.specs.Prelude.{◌+ℤ◌, ◌≡◌, ◌≤◌, List, ℕ}
use Rattle.{audit_law.specs.law.CorrectionNumbers.ComesToPoint, net_plan.specs.declared.ids.DeviceId.DeviceId}
use Rattle.{audit_law.specs.law.DueRecords.IsDue, run_law.specs.scenario.Scenarios.Scenario}
use Rattle.run_law.specs.{declared.note.NoteBody.NoteBody, records.Happenings.{Happening, time_of, up_to}}
use Rattle.{run_law.specs.device.States.adjustment_before, tte_units.specs.declared.units.Units.Units}
use Rattle.sync_state.specs.declared.answers.Verdict.TheVariants.{AsyncClique, Cleared, Corrected, SyncClique}
use Rattle.sync_state.specs.declared.{answers.Verdict.Verdict, state.State.TheVariants.Integrating}
use Rattle.run_law.specs.declared.judgement.Why.TheVariants as whys
use Rattle.run_law.specs.declared.note.NoteBody.TheVariants as notes

-- the record shows the correction, and the adjustment that it leads to
pub record ShowsCorrection (s : Scenario) (hs : List Happening) (device : DeviceId) (t cycle : ℕ) (by : Units)
    (body : NoteBody) : Type 0 where
  pub adjustment : Units
  pub says : body ≡ notes.Corrected device cycle by adjustment
  pub sum : adjustment.0 ≡ ((adjustment_before s hs device t).0 +ℤ by.0)

-- the record shows what the correction point of the cycle comes to; a joiner that clears shows nothing
abbrev pub ShowsVerdict : Scenario → List Happening → DeviceId → ℕ → ℕ → Verdict → NoteBody → Type 0
ShowsVerdict s hs device t cycle (Corrected by) body = ShowsCorrection s hs device t cycle by body
ShowsVerdict s hs device t cycle SyncClique body = body ≡ notes.State device Integrating 0 whys.SyncClique
ShowsVerdict s hs device t cycle AsyncClique body = body ≡ notes.State device Integrating 0 whys.AsyncClique
ShowsVerdict s hs device t cycle Cleared body = ⊥

-- the record is due by a correction point
pub record IsDueByPoint (s : Scenario) (before : List Happening) (x : Happening) : Type 0 where
  pub due : IsDue s before x
  pub device : DeviceId
  pub cycle : ℕ
  pub verdict : Verdict
  pub comes : ComesToPoint s before device (time_of x) cycle verdict
  pub shows : ShowsVerdict s before device (time_of x) cycle verdict x.note.body

-- at this time the device has a correction point at which it does not only clear, judged by the records up to then
pub record OwesPoint (s : Scenario) (hs : List Happening) (until : ℕ) (device : DeviceId) (time : ℕ) : Type 0 where
  pub cycle : ℕ
  pub verdict : Verdict
  pub comes : ComesToPoint s (up_to time hs) device time cycle verdict
  pub more : verdict ≡ Cleared → ⊥
  pub timely : time ≤ until

-- the record is of a correction of the device, or of its state by a clique
abbrev pub IsPointOf : DeviceId → NoteBody → Type 0
IsPointOf device (notes.Corrected other cycle by adjustment) = other ≡ device
IsPointOf device (notes.State other state cause whys.SyncClique) = other ≡ device
IsPointOf device (notes.State other state cause whys.AsyncClique) = other ≡ device
IsPointOf device other = ⊥

-- the record tells what the device's correction point at the time came to
pub record TellsPoint (device : DeviceId) (time : ℕ) (x : Happening) : Type 0 where
  pub at : time_of x ≡ time
  pub of_point : IsPointOf device x.note.body
