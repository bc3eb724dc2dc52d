-- Where the octets of a dispatch come from, and when they arrive.
use Rattle.std.specs.Prelude.{◌*◌, ◌+ℤ◌, ◌+◌, ◌<◌, ◌≡◌, ◌≤ℤ◌, ◌≤◌, ◌⊎◌, Some, false, pos, ℕ}
use Rattle.{net_plan.specs.declared.ids.DeviceId.DeviceId, run_law.specs.device.Standpoints.{cycle_at, offset_in_cycle}}
use Rattle.{net_plan.specs.declared.ids.{LinkId.LinkId, VlId.VlId}, precision_law.specs.Views.{IsGood, IsView, View}}
use Rattle.{net_plan.specs.declared.tables.Way.Way, run_law.specs.{records.Frames.tt_frame_by, scenario.Devices.is_end}}
use Rattle.precision_law.specs.traffic.{Dispatched.IsRowDispatch, Spans.{IsInSpan, IsTimedAt, shown_at}}
use Rattle.run_law.specs.{records.Happenings.{Happening, numbered, time_of}, timed.Dispatching.last_accepted}
use Rattle.{run_law.specs.{records.Order.IsIn, scenario.Ways.delay_at}, tte_units.specs.Amount.amount}
use Rattle.schedule_tables.specs.{Entries.IsEntry, Windows.{arrival_of, port_time}, declared.entry.Entry.Entry}
use Rattle.run_law.specs.declared.note.NoteBody.TheVariants as notes

-- the octets are the frame that the sender makes
pub record IsMade (v : View) (h : Happening) (device : DeviceId) (cause cycle : ℕ) (entry : Entry) : Type 0 where
  pub sender : entry.vl.sender ≡ device
  pub first : cause ≡ 0
  pub frame : h.octets ≡ tt_frame_by v.scenario.network entry.vl cycle

-- the octets are those of a frame that a switch took before
pub record IsPassed (v : View) (h : Happening) (device : DeviceId) (cause : ℕ) (vl : VlId) (cycle : ℕ) : Type 0 where
  pub switch : is_end v.scenario.network device ≡ false
  pub taken : Happening
  pub there : IsIn taken v.records
  pub number : numbered v.records cause ≡ Some taken
  pub earlier : time_of taken < time_of h
  pub last : last_accepted v.records device vl (time_of h) ≡ Some taken
  pub link : LinkId
  pub from : ℕ
  pub is : taken.note.body ≡ notes.Accepted device link from vl cycle
  pub frame : h.octets ≡ taken.octets

-- the octets of each dispatch are one of these
abbrev pub OctetsComeSo : Type 0
OctetsComeSo =
    (v : View) (h : Happening) (device : DeviceId) (link : LinkId) (cause : ℕ) (vl : VlId) (cycle : ℕ) → IsView v
    → (is : IsRowDispatch v h device link cause vl cycle) → IsMade v h device cause cycle is.entry
    ⊎ IsPassed v h device cause vl cycle

-- ---- arrivals

-- when the frame arrives
abbrev pub arrives_at : View → Happening → LinkId → Way → Entry → ℕ
arrives_at v h link way entry = time_of h + port_time entry + delay_at v.scenario link way (time_of h)

-- it arrives in the span of its cycle, and a synchronised device that is reached shows a time in the row's window
pub record ArrivesInSpan (v : View) (cycle u : ℕ) (entry : Entry) : Type 0 where
  pub span : IsInSpan v cycle u
  pub shows : (receiver : DeviceId) → IsTimedAt v receiver u
      → (pos (cycle * v.sizes.cycle + arrival_of entry) ≤ℤ (shown_at v receiver u
      +ℤ pos (v.sizes.spread + 2 * v.sizes.reach)))
      × (shown_at v receiver
      u ≤ℤ pos (cycle * v.sizes.cycle + arrival_of entry + amount
      entry.link.jitter + v.sizes.spread + 2 * v.sizes.reach))

-- the frame of a good device arrives so
abbrev pub FramesArriveInSpans : Type 0
FramesArriveInSpans =
    (v : View) (h : Happening) (device : DeviceId) (link : LinkId) (cause : ℕ) (vl : VlId) (cycle : ℕ) (way : Way)
    → IsView v → IsGood v device
    → (is : IsRowDispatch v h device link cause vl cycle) → arrives_at v h link way is.entry ≤ v.until
    → ArrivesInSpan v cycle (arrives_at v h link way is.entry) is.entry

-- the device's clock is in the cycle, and in the row's window
pub record IsInWindow (v : View) (cycle u : ℕ) (entry : Entry) (receiver : DeviceId) : Type 0 where
  pub in_cycle : cycle_at v.scenario.network (shown_at v receiver u) ≡ cycle
  pub not_before : pos (arrival_of entry) ≤ℤ (offset_in_cycle v.scenario.network (shown_at v receiver u)
      +ℤ pos (v.sizes.spread + 2 * v.sizes.reach))
  pub not_behind : offset_in_cycle v.scenario.network
      (shown_at v receiver u) ≤ℤ pos (arrival_of entry + amount entry.link.jitter + v.sizes.spread + 2 * v.sizes.reach)

-- a synchronised device that it reaches is in the window
abbrev pub ArrivalsAreInWindows : Type 0
ArrivalsAreInWindows =
    (v : View) (place cycle u : ℕ) (entry : Entry) (receiver : DeviceId) → IsView v
    → IsEntry v.scenario.network place entry
    → ArrivesInSpan v cycle u entry → IsTimedAt v receiver u → IsInWindow v cycle u entry receiver
