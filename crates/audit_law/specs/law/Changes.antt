-- What is owed of the records that change a device's state: the record of its new state.
use Rattle.std.specs.Prelude.{◌≡◌, ◌≤◌, List, ℕ}
use Rattle.audit_law.specs.law.DueRecords.{ChangesState, IsDue}
use Rattle.net_plan.specs.declared.ids.DeviceId.{DeviceId}
use Rattle.run_law.specs.{declared.{judgement.Why.Why, note.NoteBody.NoteBody}, records.Happenings.{Happening, time_of}}
use Rattle.{run_law.specs.scenario.Scenarios.Scenario, sync_state.specs.declared.state.State.State}
use Rattle.run_law.specs.declared.judgement.Why.TheVariants as whys
use Rattle.run_law.specs.declared.note.NoteBody.TheVariants as notes

-- a change for this reason is brought by a record: an event, a frame or a correction
abbrev pub IsBrought : Why → Type 0
IsBrought whys.On = Unit {0}
IsBrought whys.Frame = Unit {0}
IsBrought whys.Correction = Unit {0}
IsBrought other = ⊥

-- the record is due by a change of state that a record brings
pub record IsDueByChange (s : Scenario) (before : List Happening) (x : Happening) : Type 0 where
  pub due : IsDue s before x
  pub device : DeviceId
  pub state : State
  pub cause : ℕ
  pub why : Why
  pub brought : IsBrought why
  pub changes : ChangesState s before device (time_of x) state cause why
  pub says : x.note.body ≡ notes.State device state cause why

-- by the time, the record of this number changes a device's state, judged by the list
pub record OwesChange (s : Scenario) (hs : List Happening) (until cause : ℕ) : Type 0 where
  pub device : DeviceId
  pub time : ℕ
  pub state : State
  pub why : Why
  pub brought : IsBrought why
  pub changes : ChangesState s hs device time state cause why
  pub timely : time ≤ until

-- the record tells of the state that this record brings
abbrev pub TellsChange : ℕ → NoteBody → Type 0
TellsChange cause (notes.State device state from why) = from ≡ cause
TellsChange cause other = ⊥
