-- The records of dispatches by the schedule.
use Rattle.std.specs.Prelude.{◌*◌, ◌+◌, ◌≡◌, false, length, pos, ℕ}
use Rattle.{net_plan.specs.declared.ids.DeviceId.DeviceId, precision_law.specs.Views.{IsGood, IsView, View}}
use Rattle.{net_plan.specs.declared.ids.LinkId.LinkId, sync_state.specs.declared.state.State.TheVariants.Synchronised}
use Rattle.{net_plan.specs.declared.ids.VlId.VlId, run_law.specs.{device.LocalClocks.Reaches, records.Order.IsIn}}
use Rattle.{precision_law.specs.Blocks.state_left, tte_units.specs.Amount.amount}
use Rattle.{precision_law.specs.traffic.Spans.IsReachedInSpan, run_law.specs.records.Happenings.{Happening, time_of}}
use Rattle.run_law.specs.{scenario.{Scenarios.is_broken, Ways.{is_cut, way_from}}, timed.Dispatching.HasAtHand}
use Rattle.schedule_tables.specs.{Entries.{IsEntry, source_of}, Windows.OccursIn, declared.entry.Entry.Entry}
use Rattle.run_law.specs.declared.note.NoteBody.TheVariants as notes

-- the record is that by which the device dispatches the row's frame of the cycle
pub record IsRowDispatch (v : View) (h : Happening) (device : DeviceId) (link : LinkId) (cause : ℕ) (vl : VlId)
    (cycle : ℕ) : Type 0 where
  pub there : IsIn h v.records
  pub is : h.note.body ≡ notes.TtSent device link cause vl cycle
  pub place : ℕ
  pub entry : Entry
  pub row : IsEntry v.scenario.network place entry
  pub by : entry.row.link ≡ link
  pub of_vl : entry.row.vl ≡ vl
  pub leaves : source_of entry ≡ device
  pub occurs : OccursIn entry.vl cycle
  pub synchronised : state_left v device (time_of h) ≡ Synchronised
  pub correct : is_broken v.scenario device (time_of h) ≡ false
  pub reached : Reaches v.scenario v.records device (pos (cycle * v.sizes.cycle + amount entry.row.offset)) (time_of h)
  pub at_hand : HasAtHand v.scenario.network v.records device entry (time_of h) cause cycle
  pub whole : is_cut v.scenario link (way_from v.scenario.network device link) (time_of h) ≡ false

-- each `ttsent` record is such a record
abbrev pub DispatchesAreOfRows : Type 0
DispatchesAreOfRows =
    (v : View) (h : Happening) (device : DeviceId) (link : LinkId) (cause : ℕ) (vl : VlId) (cycle : ℕ) → IsView v
    → IsIn h v.records
    → h.note.body ≡ notes.TtSent device link cause vl cycle → IsRowDispatch v h device link cause vl cycle

-- a good device dispatches in the span of the frame's cycle
abbrev pub DispatchesAreInSpans : Type 0
DispatchesAreInSpans =
    (v : View) (h : Happening) (device : DeviceId) (link : LinkId) (cause : ℕ) (vl : VlId) (cycle : ℕ) → IsView v
    → IsGood v device
    → (is : IsRowDispatch v h device link cause vl cycle) → IsReachedInSpan v cycle (amount is.entry.row.offset)
    (time_of h)

-- the frame has the length that is configured for its virtual link
abbrev pub DispatchesAreWhole : Type 0
DispatchesAreWhole =
    (v : View) (h : Happening) (device : DeviceId) (link : LinkId) (cause : ℕ) (vl : VlId) (cycle : ℕ) → IsView v
    → (is : IsRowDispatch v h device link cause vl cycle) → length h.octets ≡ is.entry.vl.length

-- one row has one dispatch in a cycle
abbrev pub DispatchesAreOne : Type 0
DispatchesAreOne =
    (v : View) (h g : Happening) (device : DeviceId) (link : LinkId) (cause other : ℕ) (vl : VlId) (cycle : ℕ)
    → IsView v → IsGood v device
    → IsRowDispatch v h device link cause vl cycle → IsRowDispatch v g device link other vl cycle → h ≡ g
