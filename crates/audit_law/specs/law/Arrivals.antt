-- What is owed of the frames on the wires: each arrives, and is taken or dropped.
use Rattle.std.specs.Prelude.{◌≡◌, ◌≤◌, List, ℕ}
use Rattle.net_plan.specs.declared.ids.{DeviceId.DeviceId, LinkId.LinkId}
use Rattle.run_law.specs.declared.{note.NoteBody.NoteBody, steps.Arrival.Arrival}
use Rattle.run_law.specs.records.{Happenings.{Happening, time_of}, Order.IsBefore, Ranks.{place_at, place_of}}
use Rattle.run_law.specs.{scenario.Scenarios.Scenario, timed.Receptions.ArrivesAs}
use Rattle.audit_law.specs.law.DueRecords.{IsDue}
use Rattle.run_law.specs.declared.note.NoteBody.TheVariants as notes
use Rattle.run_law.specs.declared.steps.Arrival.TheVariants as arrivals

-- the record of what became at its arrival of what the record with the number `cause` put on the link
abbrev pub arrival_record : DeviceId → LinkId → ℕ → Arrival → NoteBody
arrival_record device link cause (arrivals.Dropped reason) = notes.Dropped device link cause reason
arrival_record device link cause (arrivals.Waits frame point) = notes.Arrived device link cause frame.clock
arrival_record device link cause (arrivals.Passes frame way) = notes.Arrived device link cause frame.clock
arrival_record device link cause (arrivals.PassesAndWaits frame way point) = notes.Arrived device link cause frame.clock
arrival_record device link cause (arrivals.Accepted vl cycle) = notes.Accepted device link cause vl cycle
arrival_record device link cause (arrivals.Delivered vl cycle) = notes.Delivered device link cause vl cycle

-- the record is due by an arrival
pub record IsDueByArrival (s : Scenario) (before : List Happening) (x : Happening) : Type 0 where
  pub due : IsDue s before x
  pub device : DeviceId
  pub link : LinkId
  pub cause : ℕ
  pub is : Arrival
  pub arrives : ArrivesAs s before device (time_of x) link cause is
  pub says : x.note.body ≡ arrival_record device link cause is

-- what the record of this number put on a wire arrives by the time, behind that record; judged by the list, this
-- becomes of it
pub record OwesArrival (s : Scenario) (hs : List Happening) (until cause : ℕ) : Type 0 where
  pub device : DeviceId
  pub link : LinkId
  pub time : ℕ
  pub is : Arrival
  pub arrives : ArrivesAs s hs device time link cause is
  pub behind : IsBefore (place_of arrives.putting) (place_at time 0 (arrival_record device link cause is))
  pub timely : time ≤ until

-- the record says what became of the frame of this record at a device
abbrev pub TellsArrival : ℕ → NoteBody → Type 0
TellsArrival cause (notes.Arrived device link from clock) = from ≡ cause
TellsArrival cause (notes.Accepted device link from vl cycle) = from ≡ cause
TellsArrival cause (notes.Delivered device link from vl cycle) = from ≡ cause
TellsArrival cause (notes.Dropped device link from reason) = from ≡ cause
TellsArrival cause other = ⊥
