-- That frames of the schedule are taken.
use Rattle.std.specs.Prelude.{◌*◌, ◌+ℤ◌, ◌+◌, ◌≡◌, ◌≤ℤ◌, ◌≤◌, Some, false, pos, slice_get, ℕ}
use Rattle.{net_plan.specs.declared.ids.DeviceId.DeviceId, schedule_tables.specs.declared.entry.Entry.Entry}
use Rattle.{net_plan.specs.declared.ids.LinkId.LinkId, sync_state.specs.declared.state.State.TheVariants.Synchronised}
use Rattle.{net_plan.specs.declared.ids.VlId.VlId, precision_law.specs.Blocks.Stands, tte_units.specs.Amount.amount}
use Rattle.{net_plan.specs.declared.tables.VirtualLink.VirtualLink, precision_law.specs.traffic.Coming.HasGoodSources}
use Rattle.precision_law.specs.{Views.{IsGood, IsSoundSwitch, IsView, View}, traffic.Dispatched.IsRowDispatch}
use Rattle.precision_law.specs.traffic.{Fits.FieldsFit, Passed.arrives_at, Spans.IsTimedAt, Taken.SaysTaken}
use Rattle.run_law.specs.{device.{LocalClocks.Reaches, States.state_before}, records.Frames.tt_frame_by}
use Rattle.run_law.specs.{records.{Happenings.{Happening, time_of}, Order.IsIn}, scenario.Scenarios.is_turned_on_at}
use Rattle.schedule_tables.specs.{Entries.{IsEntry, IsOnChannel, source_of, target_of}, Windows.{OccursIn, window_end}}

-- by the time, the device has taken a frame of the virtual link in the cycle
pub record HasTaken (v : View) (device : DeviceId) (vl : VlId) (cycle u : ℕ) : Type 0 where
  pub taking : Happening
  pub there : IsIn taking v.records
  pub by_then : time_of taking ≤ u
  pub link : LinkId
  pub cause : ℕ
  pub says : SaysTaken taking.note.body device link cause vl cycle

-- a dispatched frame that comes to a synchronised device is taken, or one was taken before
abbrev pub ArrivalsAreTaken : Type 0
ArrivalsAreTaken =
    (v : View) (h : Happening) (device receiver : DeviceId) (link : LinkId) (cause : ℕ) (vl : VlId) (cycle : ℕ)
    → IsView v → FieldsFit v.scenario.network → IsGood v device → IsGood v receiver
    → (d : IsRowDispatch v h device link cause vl cycle) → h.octets ≡ tt_frame_by v.scenario.network d.entry.vl cycle
    → target_of d.entry ≡ receiver
    → arrives_at v h link d.entry.row.way d.entry ≤ v.until
    → IsTimedAt v receiver (arrives_at v h link d.entry.row.way d.entry)
    → is_turned_on_at v.scenario receiver (arrives_at v h link d.entry.row.way d.entry) ≡ false
    → HasTaken v receiver vl cycle (arrives_at v h link d.entry.row.way d.entry)

-- ---- along the sound channel

-- the switches of the sound channel are synchronised when the span of a cycle begins
abbrev pub SoundSwitchesKeepTime : Type 0
SoundSwitchesKeepTime =
    (v : View) (n : ℕ) (before : Stands v n) (device : DeviceId) → IsView v → IsSoundSwitch v device
    → IsTimedAt v device before.next

-- the sender of the virtual link is good and dispatches its frame of the cycle, which may come by the end of the run
pub record IsSentIn (v : View) (vl : VlId) (of_vl : VirtualLink) (cycle last : ℕ) : Type 0 where
  pub there : slice_get v.scenario.network.vl vl.0 ≡ Some of_vl
  pub occurs : OccursIn of_vl cycle
  pub sender : IsGood v of_vl.sender
  pub before : Stands v cycle
  pub in_run : (before.hull.least +ℤ pos last) ≤ℤ (pos v.until +ℤ pos v.sizes.reach)
  pub rows : (place : ℕ) (entry : Entry) → IsEntry v.scenario.network place entry → entry.row.vl ≡ vl
      → source_of entry ≡ of_vl.sender
      → (t : ℕ) × (t ≤ v.until)
      × Reaches v.scenario v.records of_vl.sender (pos (cycle * v.sizes.cycle + amount entry.row.offset)) t
      × (state_before v.scenario v.records of_vl.sender t ≡ Synchronised)

-- the row's frame of the cycle is dispatched
pub record IsRowSent (v : View) (vl : VlId) (cycle : ℕ) (entry : Entry) : Type 0 where
  pub record_of : Happening
  pub cause : ℕ
  pub dispatch : IsRowDispatch v record_of (source_of entry) entry.row.link cause vl cycle
  pub same : dispatch.entry ≡ entry

-- on the sound channel each row of the virtual link dispatches its frame, where its window ends in time
abbrev pub RowsAreSent : Type 0
RowsAreSent =
    (v : View) (vl : VlId) (of_vl : VirtualLink) (cycle last : ℕ) → IsView v → FieldsFit v.scenario.network
    → HasGoodSources v vl → IsSentIn v vl of_vl cycle last
    → (place : ℕ) (entry : Entry) → IsEntry v.scenario.network place entry → entry.row.vl ≡ vl
    → IsOnChannel v.scenario.network v.channel entry → window_end v.scenario.network entry ≤ last
    → IsRowSent v vl cycle entry
