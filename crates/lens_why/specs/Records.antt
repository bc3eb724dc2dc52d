-- The records of a report by their numbers.
use Rattle.std.specs.Prelude.{◌^◌, ◌≡◌, ◌≤ℤ◌, ◌≤◌, List, MatchResult, None, Option, Result, Some, length, option_map}
use Rattle.{run_law.specs.runs.Runs.IsFounded, std.specs.Prelude.{pos, ℕ}}
use Rattle.{audit_sweep.specs.declared.index.Permanence.Permanence, net_plan.specs.declared.network.Network.Network}
use Rattle.{net_plan.specs.declared.ids.DeviceId.DeviceId, run_law.specs.declared.note.{Note.Note, NoteBody.NoteBody}}
use Rattle.run_law.specs.{declared.judgement.Judgement.Judgement, records.Happenings.{Happening, happenings, numbered}}
use Rattle.run_law.specs.{declared.judgement.Why.Why, records.Causes.cause_of, scenario.Scenarios.Scenario}
use Rattle.{report_text.specs.Ranges.IsBodyOf, tte_reports.specs.Places.note_at, tte_units.specs.Amount.amount}
use Rattle.{run_law.specs.{records.Ranks.place_of, runs.DueRecords.IsDue}, tte_reports.specs.Reports.IsReportOf}
use Rattle.{sync_state.specs.declared.state.State.State, tte_units.specs.declared.units.Units.Units}
use Rattle.run_law.specs.declared.note.NoteBody.TheVariants as notes

-- the octets are the report of some records, and this is one of them
pub record IsRecordOf (network : Network) (octets : List ℕ) (note : Note) : Type 0 where
  pub notes : List Note
  pub end : Units
  pub report : IsReportOf network octets notes end
  pub number : ℕ
  pub there : note_at notes number ≡ Some note

-- the record of the number was found, or there are only so many
abbrev pub IsFound : List Note → ℕ → Result Note ℕ → Type 0
IsFound notes number result =
    MatchResult result (λ note. note_at notes number ≡ Some note)
    (λ count. (count ≡ length notes) × (note_at notes number ≡ None))

-- the record is one of these, each of which is due given those before it, and it comes from this one, or from none
pub record ComesFrom (s : Scenario) (hs : List Happening) (h : Happening) (note : Note) (giving : Option Note)
    : Type 0 where
  pub founded : IsFounded place_of (IsDue s) hs
  pub number : ℕ
  pub there : numbered hs number ≡ Some h
  pub is : note ≡ h.note
  pub from : giving ≡ option_map (λ g. g.note) (numbered hs (cause_of h.note.body))

-- a record of the network, of a time from 0 on that is none too late for a clock
pub record IsTimely (network : Network) (note : Note) : Type 0 where
  pub of_network : IsBodyOf network note.body
  pub begun : pos 0 ≤ℤ note.time.0
  pub soon : amount note.time ≤ 2 ^ 60

-- this is the record of the number
pub record IsThere (network : Network) (notes : List Note) (number : ℕ) (h : Happening) : Type 0 where
  pub there : numbered (happenings network notes) number ≡ Some h
  pub own : h.note.number ≡ number

-- the record is that of the correction of the device's clock, at the point of the cycle
pub record IsCorrection (h : Happening) (time : Units) (device : DeviceId) (cycle : ℕ) : Type 0 where
  pub by : Units
  pub adjustment : Units
  pub at : h.note.time ≡ time
  pub is : h.note.body ≡ notes.Corrected device cycle by adjustment

-- the record is that of a state of the device, to which it comes so
pub record IsState (h : Happening) (time : Units) (device : DeviceId) (why : Why) : Type 0 where
  pub state : State
  pub cause : ℕ
  pub at : h.note.time ≡ time
  pub is : h.note.body ≡ notes.State device state cause why

-- the record is that of this permanence at the time
pub record IsPermanence (h : Happening) (time : Units) (frame : Permanence) (verdict : Judgement) : Type 0 where
  pub at : h.note.time ≡ time
  pub is : h.note.body ≡ notes.Permanent frame.device frame.link frame.cause frame.point verdict

-- the transparent clock of the frame that is given to a link with a record of this body
abbrev pub clock_given : NoteBody → ℕ
clock_given (notes.Arrived device link cause clock) = clock
clock_given other = 0
