-- The records by which devices take frames of the schedule.
use Rattle.std.specs.Prelude.{◌++◌, ◌+◌, ◌∷◌, ◌≡◌, ◌≤ℤ◌, ◌⊎◌, List, Some, false, length, ℕ}
use Rattle.{net_plan.specs.declared.ids.DeviceId.DeviceId, schedule_tables.specs.declared.entry.Entry.Entry}
use Rattle.{net_plan.specs.declared.{ids.LinkId.LinkId, tables.Way.Way}, run_law.specs.scenario.Scenarios.is_broken}
use Rattle.{net_plan.specs.declared.ids.VlId.VlId, pcf_codec.specs.Fields.field, precision_law.specs.Blocks.state_left}
use Rattle.{precision_law.specs.Views.{IsView, View}, run_law.specs.timed.{Arrivals.is_taken_in, Receptions.last_taken}}
use Rattle.{precision_law.specs.traffic.Spans.shown_at, sync_state.specs.declared.state.State.TheVariants.Synchronised}
use Rattle.run_law.specs.{control.Wires.{launched, time_on_port, timed}, device.Standpoints.{cycle_at, offset_in_cycle}}
use Rattle.run_law.specs.{declared.note.NoteBody.NoteBody, records.Happenings.{Happening, numbered, time_of}}
use Rattle.run_law.specs.{records.{Causes.cause_of, Order.IsIn}, scenario.Ways.delay_at}
use Rattle.schedule_tables.specs.{Entries.{IsEntry, target_of}, Windows.{OccursIn, window_of}}
use Rattle.run_law.specs.declared.note.NoteBody.TheVariants as notes

-- the body says that the device took a frame of the virtual link in the cycle
abbrev pub SaysTaken : NoteBody → DeviceId → LinkId → ℕ → VlId → ℕ → Type 0
SaysTaken body device link cause vl cycle =
    (body ≡ notes.Accepted device link cause vl cycle) ⊎ (body ≡ notes.Delivered device link cause vl cycle)

-- the row by which a frame with this id comes on this way of the link, and what it is
pub record IsRowBy (v : View) (device : DeviceId) (link : LinkId) (way : Way) (vl : VlId) (id : ℕ) : Type 0 where
  pub place : ℕ
  pub entry : Entry
  pub row : IsEntry v.scenario.network place entry
  pub by : entry.row.link ≡ link
  pub on_way : entry.row.way ≡ way
  pub of_vl : entry.row.vl ≡ vl
  pub id_is : entry.vl.id ≡ id
  pub enters : target_of entry ≡ device

-- the record of the octets' taking: they came by a row of the virtual link, in the row's window and in the cycle of the
-- device's own clock
pub record IsTaking (v : View) (h : Happening) (device : DeviceId) (link : LinkId) (cause : ℕ) (vl : VlId)
    (cycle : ℕ) : Type 0 where
  pub there : IsIn h v.records
  pub putting : Happening
  pub put_there : IsIn putting v.records
  pub number : numbered v.records cause ≡ Some putting
  pub is_cause : numbered v.records (cause_of h.note.body) ≡ Some putting
  pub octets : h.octets ≡ putting.octets
  pub way : Way
  pub put : launched v.scenario putting (time_of putting)
      putting.note.body ≡ Some (record { link = link; way = way; signal = timed h.octets })
  pub at : time_of h ≡ time_of putting + time_on_port v.scenario.network link (timed h.octets) + delay_at v.scenario
      link way (time_of putting)
  pub by_row : IsRowBy v device link way vl (field 4 2 h.octets)
  pub whole : length h.octets ≡ by_row.entry.vl.length
  pub occurs : OccursIn by_row.entry.vl cycle
  pub in_cycle : cycle ≡ cycle_at v.scenario.network (shown_at v device (time_of h))
  pub not_before : (window_of v.scenario.network by_row.entry).from.0 ≤ℤ offset_in_cycle v.scenario.network
      (shown_at v device (time_of h))
  pub not_behind : offset_in_cycle v.scenario.network
      (shown_at v device (time_of h)) ≤ℤ (window_of v.scenario.network by_row.entry).to.0
  pub synchronised : state_left v device (time_of h) ≡ Synchronised
  pub correct : is_broken v.scenario device (time_of h) ≡ false
  pub front : List Happening
  pub rest : List Happening
  pub split : v.records ≡ front ++ h ∷ rest
  pub anew : is_taken_in cycle (last_taken front device (time_of h) link cause vl) ≡ false

-- each record that says so is such a record
abbrev pub TakingsAreSo : Type 0
TakingsAreSo =
    (v : View) (h : Happening) (device : DeviceId) (link : LinkId) (cause : ℕ) (vl : VlId) (cycle : ℕ) → IsView v
    → IsIn h v.records
    → SaysTaken h.note.body device link cause vl cycle → IsTaking v h device link cause vl cycle
