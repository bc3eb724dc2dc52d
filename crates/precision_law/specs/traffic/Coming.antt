-- Where the frames come from that devices take.
use Rattle.std.specs.Prelude.{◌<◌, ◌≡◌, Some, slice_get, ℕ}
use Rattle.{net_plan.specs.declared.ids.DeviceId.DeviceId, precision_law.specs.Views.{IsGood, IsView, View}}
use Rattle.net_plan.specs.declared.ids.{LinkId.LinkId, VlId.VlId}
use Rattle.precision_law.specs.traffic.Dispatched.{IsRowDispatch}
use Rattle.{net_plan.specs.declared.tables.VirtualLink.VirtualLink, schedule_tables.specs.Entries.{IsEntry, source_of}}
use Rattle.run_law.specs.{law.Safety.IsFirstDispatch, records.{Causes.GoesBackTo, Frames.tt_frame_by}}
use Rattle.{run_law.specs.records.Happenings.{Happening, time_of}, schedule_tables.specs.declared.entry.Entry.Entry}
use Rattle.precision_law.specs.traffic.{Fits.FieldsFit, Passed.ArrivesInSpan, Spans.IsInSpan, Taken.IsTaking}

-- what lies in the span of an earlier cycle is earlier
abbrev pub SpansAreApart : Type 0
SpansAreApart = (v : View) (n k t u : ℕ) → IsView v → n < k → IsInSpan v n t → IsInSpan v k u → t < u

-- the rows of the virtual link leave good devices
abbrev pub HasGoodSources : View → VlId → Type 0
HasGoodSources v vl =
    (place : ℕ) (entry : Entry) → IsEntry v.scenario.network place entry → entry.row.vl ≡ vl
    → IsGood v (source_of entry)

-- the frame was put on its wire by a dispatch of the row by which it came, in the same cycle, and came in the cycle's
-- span
pub record ComesByRow (v : View) (h : Happening) (device : DeviceId) (link : LinkId) (cause : ℕ) (vl : VlId) (cycle : ℕ)
    (taking : IsTaking v h device link cause vl cycle) : Type 0 where
  pub from : ℕ
  pub dispatch : IsRowDispatch v taking.putting (source_of taking.by_row.entry) link from vl cycle
  pub same : dispatch.entry ≡ taking.by_row.entry
  pub in_span : ArrivesInSpan v cycle (time_of h) taking.by_row.entry

-- where the row leaves a good device, each taking is of such a frame
abbrev pub TakingsComeByRows : Type 0
TakingsComeByRows =
    (v : View) (h : Happening) (device : DeviceId) (link : LinkId) (cause : ℕ) (vl : VlId) (cycle : ℕ) → IsView v
    → FieldsFit v.scenario.network → IsGood v device
    → (taking : IsTaking v h device link cause vl cycle) → IsGood v (source_of taking.by_row.entry)
    → ComesByRow v h device link cause vl cycle taking

-- the record's frame is the one that the sender made in the cycle, and its causes go back to its dispatch there
pub record BeginsAtSender (v : View) (h : Happening) (vl : VlId) (of_vl : VirtualLink) (cycle : ℕ) : Type 0 where
  pub first : Happening
  pub back : GoesBackTo v.records h first
  pub begins : IsFirstDispatch vl of_vl cycle first.note.body
  pub whole : h.octets ≡ tt_frame_by v.scenario.network of_vl cycle

-- each dispatch in a cycle begins there
abbrev pub DispatchesBegin : Type 0
DispatchesBegin =
    (v : View) (h : Happening) (device : DeviceId) (link : LinkId) (cause : ℕ) (vl : VlId) (of_vl : VirtualLink)
    (cycle : ℕ) → IsView v → FieldsFit v.scenario.network → IsGood v device → HasGoodSources v vl
    → slice_get v.scenario.network.vl vl.0 ≡ Some of_vl → IsRowDispatch v h device link cause vl cycle
    → BeginsAtSender v h vl of_vl cycle

-- and so does each taking
abbrev pub TakingsBegin : Type 0
TakingsBegin =
    (v : View) (h : Happening) (device : DeviceId) (link : LinkId) (cause : ℕ) (vl : VlId) (of_vl : VirtualLink)
    (cycle : ℕ) → IsView v → FieldsFit v.scenario.network → IsGood v device → HasGoodSources v vl
    → slice_get v.scenario.network.vl vl.0 ≡ Some of_vl → IsTaking v h device link cause vl cycle
    → BeginsAtSender v h vl of_vl cycle
