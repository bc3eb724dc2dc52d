-- Ports: no frame meets a frame of the schedule there.
use Rattle.std.specs.Prelude.{◌*◌, ◌+ℤ◌, ◌+◌, ◌≡◌, ◌≤ℤ◌, ◌≤◌, ◌⊎◌, List, false, pos, ℕ}
use Rattle.{net_plan.specs.declared.ids.{DeviceId.DeviceId, LinkId.LinkId}, schedule_tables.specs.Windows.port_time}
use Rattle.{net_plan.specs.declared.ids.VlId.VlId, run_law.specs.{declared.note.Note.Note, scenario.Devices.is_end}}
use Rattle.{precision_law.specs.Blocks.Stands, run_law.specs.records.Order.IsIn}
use Rattle.precision_law.specs.{Precision.IsRunUpTo, Views.{IsGood, IsView, View}, traffic.Dispatched.IsRowDispatch}
use Rattle.run_law.specs.{control.Leaving.Gives, law.Safety.{FramesAreDelivered, IsSafe, PortsAreApart, time_of_octets}}
use Rattle.run_law.specs.{records.Happenings.{Happening, happenings, time_of}, scenario.Scenarios.Scenario}
use Rattle.run_law.specs.declared.note.NoteBody.TheVariants as notes

-- ---- two frames of the schedule

-- two frames of the schedule do not meet on a port
abbrev pub DispatchesStandApart : Type 0
DispatchesStandApart =
    (v : View) (h g : Happening) (device : DeviceId) (link : LinkId) (cause other : ℕ) (vl second : VlId)
    (cycle number : ℕ)
    → IsView v → IsGood v device → (h ≡ g → ⊥)
    → (one : IsRowDispatch v h device link cause vl cycle) → (two : IsRowDispatch v g device link other second number)
    → (time_of h + port_time one.entry ≤ time_of g) ⊎ (time_of g + port_time two.entry ≤ time_of h)

-- ---- a frame of the schedule and a control frame

-- the device gives a control frame to the link by the record
pub record GivesAt (v : View) (h : Happening) (device : DeviceId) (link : LinkId) : Type 0 where
  pub there : IsIn h v.records
  pub gives : Gives v.scenario.network h.note.body device link

-- a switch that dispatches a frame of cycle n gives no control frame to a link in the span of the cycle, until three
-- precisions before the next cycle begins
abbrev pub GivingsKeepAway : Type 0
GivingsKeepAway =
    (v : View) (h g : Happening) (device : DeviceId) (link by : LinkId) (cause : ℕ) (vl : VlId) (cycle : ℕ) → IsView v
    → IsGood v device
    → is_end v.scenario.network device ≡ false
    → IsRowDispatch v h device link cause vl cycle → GivesAt v g device by
    → (before : Stands v cycle) → before.next ≤ time_of g
    → ((before.hull.least +ℤ pos v.sizes.cycle)) ≤ℤ (pos (time_of g) +ℤ pos (3 * v.sizes.precision))

-- the record is that of a control frame's leaving
pub record IsLeaving (v : View) (h : Happening) (device : DeviceId) (link : LinkId) (cause clock : ℕ) : Type 0 where
  pub there : IsIn h v.records
  pub is : h.note.body ≡ notes.Left device link cause clock

-- a frame of the schedule and a control frame do not meet on a port
abbrev pub LeavingsStandApart : Type 0
LeavingsStandApart =
    (v : View) (h g : Happening) (device : DeviceId) (link : LinkId) (cause from clock : ℕ) (vl : VlId) (cycle : ℕ)
    → IsView v → IsGood v device
    → (is : IsRowDispatch v h device link cause vl cycle) → IsLeaving v g device link from clock
    → (time_of h + port_time is.entry ≤ time_of g) ⊎ (time_of g + time_of_octets v.scenario.network link 60 ≤ time_of h)

-- ---- safety

-- the records are those of a run that goes just as far as this time
pub record IsRunTo (s : Scenario) (mark : List ℕ) (ns : List Note) (until : ℕ) : Type 0 where
  pub up : IsRunUpTo s mark ns until
  pub within : (h : Happening) → IsIn h (happenings s.network ns) → time_of h ≤ until

-- no frame meets a frame of the schedule on a port
abbrev pub PortsStayApart : Type 0
PortsStayApart =
    (s : Scenario) (mark : List ℕ) (ns : List Note) (until : ℕ) → IsRunTo s mark ns until
    → PortsAreApart s (happenings s.network ns)

-- each frame that is owed is delivered
abbrev pub OwedFramesCome : Type 0
OwedFramesCome =
    (s : Scenario) (mark : List ℕ) (ns : List Note) (until : ℕ) → IsRunTo s mark ns until
    → FramesAreDelivered s (happenings s.network ns) until

-- each such run is safe
abbrev pub RunsAreSafe : Type 0
RunsAreSafe =
    (s : Scenario) (mark : List ℕ) (ns : List Note) (until : ℕ) → IsRunTo s mark ns until
    → IsSafe s (happenings s.network ns) until
