-- What is owed at the end of the events: the record of each device's clock.
use Rattle.std.specs.Prelude.{◌≡◌, ◌≤◌, List, Some, ℕ}
use Rattle.{audit_law.specs.law.DueRecords.IsDue, net_plan.specs.Places.device_at}
use Rattle.{net_plan.specs.declared.ids.DeviceId.DeviceId, run_law.specs.declared.note.NoteBody.NoteBody}
use Rattle.{net_plan.specs.declared.tables.Device.Device, sync_state.specs.declared.state.State.State}
use Rattle.run_law.specs.{records.Happenings.{Happening, time_of}, runs.DueRecords.{EndsAt, IsClockRecord}}
use Rattle.{run_law.specs.scenario.Scenarios.Scenario, tte_units.specs.{Amount.units_of, declared.units.Units.Units}}
use Rattle.run_law.specs.declared.note.NoteBody.TheVariants as notes

-- the record is due by the end of the events
pub record IsDueByEnd (s : Scenario) (before : List Happening) (x : Happening) : Type 0 where
  pub due : IsDue s before x
  pub device : DeviceId
  pub shown : Units
  pub adjustment : Units
  pub state : State
  pub clock : IsClockRecord s before device x.note.time shown adjustment state
  pub says : x.note.body ≡ notes.Clock device shown adjustment state

-- the events end at the time, and the network has the device
pub record OwesClock (s : Scenario) (until : ℕ) (device : DeviceId) (time : ℕ) : Type 0 where
  pub is : Device
  pub there : device_at s.network device ≡ Some is
  pub ends : EndsAt s.events (units_of time)
  pub timely : time ≤ until

-- the record is of the device's clock
abbrev pub IsClockOf : DeviceId → NoteBody → Type 0
IsClockOf device (notes.Clock other shown adjustment state) = other ≡ device
IsClockOf device other = ⊥

-- the record tells the device's clock at the time
abbrev pub TellsClock : DeviceId → ℕ → Happening → Type 0
TellsClock device time x = (time_of x ≡ time) × IsClockOf device x.note.body
