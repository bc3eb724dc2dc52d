-- What is owed of schedules: each master sends in each cycle, and each row's frame is dispatched.
use Rattle.std.specs.Prelude.{if◌then◌else◌, ◌≡◌, ◌≤◌, Bool, List, ℕ}
use Rattle.net_plan.specs.declared.ids.{DeviceId.DeviceId, LinkId.LinkId, VlId.VlId}
use Rattle.run_law.specs.{declared.note.NoteBody.NoteBody, records.Happenings.{Happening, time_of}}
use Rattle.run_law.specs.{scenario.{Scenarios.Scenario, Ways.{is_cut, way_from}}, timed.Dispatching.{Dispatches, Sends}}
use Rattle.audit_law.specs.law.DueRecords.{IsDue}
use Rattle.run_law.specs.declared.note.NoteBody.TheVariants as notes

-- the record is due by a master's sending
pub record IsDueBySending (s : Scenario) (before : List Happening) (x : Happening) : Type 0 where
  pub due : IsDue s before x
  pub device : DeviceId
  pub cycle : ℕ
  pub sends : Sends s before device (time_of x) cycle
  pub says : x.note.body ≡ notes.Sent device cycle

-- at this time a master begins a cycle
pub record Sending : Type 0 where
  pub device : DeviceId
  pub cycle : ℕ
  pub time : ℕ

-- it sends, judged by the list
pub record OwesSending (s : Scenario) (hs : List Happening) (until : ℕ) (o : Sending) : Type 0 where
  pub sends : Sends s hs o.device o.time o.cycle
  pub timely : o.time ≤ until

-- the record says so
pub record TellsSending (o : Sending) (x : Happening) : Type 0 where
  pub at : time_of x ≡ o.time
  pub says : x.note.body ≡ notes.Sent o.device o.cycle

-- at this time a row's frame of a cycle is dispatched on a link: the switch that dispatches it took it by this record
pub record Dispatch : Type 0 where
  pub device : DeviceId
  pub link : LinkId
  pub cause : ℕ
  pub vl : VlId
  pub cycle : ℕ
  pub time : ℕ

-- the record of a dispatch on a way that is cut, or not
abbrev pub dispatch_record : Dispatch → Bool → NoteBody
dispatch_record o cut =
    if cut then notes.Lost o.device o.link o.cause else notes.TtSent o.device o.link o.cause o.vl o.cycle

-- is the way cut then?
abbrev pub is_cut_then : Scenario → Dispatch → Bool
is_cut_then s o = is_cut s o.link (way_from s.network o.device o.link) o.time

-- the record is due by a dispatch
pub record IsDueByDispatch (s : Scenario) (before : List Happening) (x : Happening) : Type 0 where
  pub due : IsDue s before x
  pub is : Dispatch
  pub at : time_of x ≡ is.time
  pub dispatches : Dispatches s before is.device is.time is.link is.cause is.vl is.cycle
  pub says : x.note.body ≡ dispatch_record is (is_cut_then s is)

-- it is dispatched, judged by the list
pub record OwesDispatch (s : Scenario) (hs : List Happening) (until : ℕ) (o : Dispatch) : Type 0 where
  pub dispatches : Dispatches s hs o.device o.time o.link o.cause o.vl o.cycle
  pub timely : o.time ≤ until

-- the record says that it was, or that it was lost
pub record TellsDispatch (s : Scenario) (o : Dispatch) (x : Happening) : Type 0 where
  pub at : time_of x ≡ o.time
  pub says : x.note.body ≡ dispatch_record o (is_cut_then s o)
