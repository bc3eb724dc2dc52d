-- What is owed of the events that befall a network: each has its record.
use Rattle.std.specs.Prelude.{◌+◌, ◌≡◌, ◌≤ℤ◌, ◌≤◌, List, Some, pos, slice_get, ℕ}
use Rattle.{audit_law.specs.law.DueRecords.IsDue, tte_units.specs.Amount.amount}
use Rattle.{net_plan.specs.declared.event.{Event.Event, What.What}, run_law.specs.scenario.Scenarios.Scenario}
use Rattle.run_law.specs.{declared.note.NoteBody.NoteBody, records.Happenings.Happening, runs.DueRecords.IsEventRecord}
use Rattle.run_law.specs.declared.note.NoteBody.TheVariants as notes

-- the record is due by an event
pub record IsDueByEvent (s : Scenario) (before : List Happening) (x : Happening) : Type 0 where
  pub due : IsDue s before x
  pub line : ℕ
  pub what : What
  pub befalls : IsEventRecord s.events x.note.time line what
  pub says : x.note.body ≡ notes.Event line what

-- the event of this line befalls by the time
pub record OwesEvent (s : Scenario) (until line : ℕ) : Type 0 where
  pub before : ℕ
  pub line_is : line ≡ before + 1
  pub event : Event
  pub is : slice_get s.events before ≡ Some event
  pub begun : pos 0 ≤ℤ event.time.0
  pub timely : amount event.time ≤ until

-- the record is of the event of this line
abbrev pub TellsEvent : ℕ → NoteBody → Type 0
TellsEvent line (notes.Event other what) = other ≡ line
TellsEvent line other = ⊥
