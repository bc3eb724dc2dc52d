-- What a device has still to do by itself.
use Rattle.std.specs.{List.Contains, Option.option_map_or, Prelude.{false, pos, slice_get, true, ℕ, ℤ}}
use Rattle.std.specs.Prelude.{◌*◌, ◌+◌, ◌-ℤ◌, ◌<ℤ◌, ◌∷◌, ◌≡◌, ◌≤ℤ◌, ◌≤◌, ◌⊎◌, IsSomeAnd, List, None, Option, Some, []}
use Rattle.compression.specs.{Clusters.{AreClusters, Cluster}, Emission.compressed}
use Rattle.compression.specs.declared.compressed.Compressed.{Compressed}
use Rattle.net_plan.specs.{Places.is_master, declared.{ids.{DeviceId.DeviceId, RowId.RowId}, network.Network.Network}}
use Rattle.schedule_tables.specs.{Dispatches.dispatch_order, Entries.{IsEntry, source_of}, Windows.OccursIn}
use Rattle.schedule_tables.specs.declared.entry.Entry.{Entry}
use Rattle.sync_state.specs.{Standing.next_point, declared.state.State.TheVariants.Synchronised}
use Rattle.tte_units.specs.{Amount.amount, declared.units.Units.Units}
use Rattle.run_law.specs.control.{Collections.observation_window, Corrections.correction_value}
use Rattle.run_law.specs.machines.Nodes.{ClockTask, Node, correcting, dispatching, last_taken_frame, sending}
use Rattle.run_law.specs.{records.Order.IsBefore, scenario.Devices.{has_role, is_cm, is_end}}

-- a task: the frame of a collection to be sent, or a deed
pub data Task : Type 0 where
  emitting : Compressed → Task
  doing : ClockTask → Task

-- where a row's frame is dispatched in the cycle
abbrev pub offset_of : Network → RowId → ℕ
offset_of network row = option_map_or (λ r. amount r.offset) (slice_get network.row row.0) 0

-- the local value at which the deed is done
abbrev pub value_of : Network → ClockTask → ℤ
value_of network (sending cycle) = pos (cycle * amount network.cycle)
value_of network (correcting cycle) = correction_value network cycle
value_of network (dispatching row cycle) = pos (cycle * amount network.cycle + offset_of network row)

-- the reading at which the task is done
abbrev pub reading_for : Network → Node → Task → ℤ
reading_for network node (emitting sent) = sent.at.0
reading_for network node (doing deed) = value_of network deed -ℤ node.standing.adjustment.0

-- a switch took the row's frame of the cycle before its local clock reached the row's place
pub record HasTaken (network : Network) (node : Node) (entry : Entry) (row : RowId) (cycle : ℕ) : Type 0 where
  pub last : IsSomeAnd (last_taken_frame node entry.row.vl) (λ taking. (taking.cycle ≡ cycle)
      × (taking.at <ℤ value_of network (dispatching row cycle)))

-- the row leaves the device, its virtual link occurs in the cycle, and the device has the frame: it is the sender, or
-- a switch that took it
pub record HasFrame (network : Network) (device : DeviceId) (node : Node) (row : RowId) (cycle : ℕ) : Type 0 where
  pub entry : Entry
  pub is : IsEntry network row.0 entry
  pub leaves : source_of entry ≡ device
  pub occurs : OccursIn entry.vl cycle
  pub has : (entry.vl.sender ≡ device) ⊎ ((is_end network device ≡ false) × HasTaken network node entry row cycle)

-- the deed is one of the device in its state: a synchronised master sends in each cycle but the silent one, a
-- synchronised device dispatches, and one with a next correction point comes to it
abbrev pub IsDeedOf : Network → DeviceId → Node → ClockTask → Type 0
IsDeedOf network device node (sending cycle) =
    (has_role network is_master device ≡ true) × (node.standing.state ≡ Synchronised) × (1 ≤ cycle)
IsDeedOf network device node (correcting cycle) = next_point node.standing ≡ Some cycle
IsDeedOf network device node (dispatching row cycle) =
    (node.standing.state ≡ Synchronised) × HasFrame network device node row cycle

-- a compression master has still to send this frame, that of a cluster of its points
pub record IsWaiting (network : Network) (device : DeviceId) (node : Node) (sent : Compressed) : Type 0 where
  pub cm : is_cm network device ≡ true
  pub clusters : List Cluster
  pub are : AreClusters (observation_window network) node.points clusters
  pub cluster : Cluster
  pub there : Contains clusters cluster
  pub is : sent ≡ compressed (observation_window network) (pos (amount network.calc)) cluster
  pub not_yet : Contains node.emitted sent → ⊥

-- the device has still to do the deed: its local clock was below the value right after the last change of the
-- adjustment, and it has not done it since
pub record IsUndone (network : Network) (device : DeviceId) (node : Node) (deed : ClockTask) : Type 0 where
  pub own : IsDeedOf network device node deed
  pub ahead : node.changed <ℤ value_of network deed
  pub not_yet : Contains node.done deed → ⊥

-- the device has still to do the task; a broken one has none
abbrev pub IsPending : Network → DeviceId → Node → Task → Type 0
IsPending network device node (emitting sent) = (node.broken ≡ false) × IsWaiting network device node sent
IsPending network device node (doing deed) = (node.broken ≡ false) × IsUndone network device node deed

-- the reading of the first task that the device has still to do, if it has one
abbrev pub IsDueReading : Network → DeviceId → Node → Option Units → Type 0
IsDueReading network device node None = (task : Task) → IsPending network device node task → ⊥
IsDueReading network device node (Some due) =
    ((task : Task) × IsPending network device node task × (reading_for network node task ≡ due.0))
    × ((task : Task) → IsPending network device node task → due.0 ≤ℤ reading_for network node task)

-- the order of the tasks of one reading: emissions by their opening points, then the sending, the correction, and the
-- dispatches by offset, link and row
abbrev pub order_of : Network → Task → List ℕ
order_of network (emitting sent) = 0 ∷ amount sent.opened ∷ []
order_of network (doing (sending cycle)) = 1 ∷ cycle ∷ []
order_of network (doing (correcting cycle)) = 2 ∷ cycle ∷ []
order_of network (doing (dispatching row cycle)) = 3 ∷ dispatch_order network row

-- the task is the first of those that are due at the reading
pub record IsFirstTask (network : Network) (device : DeviceId) (node : Node) (reading : ℤ) (task : Task) : Type 0 where
  pub pending : IsPending network device node task
  pub due : reading_for network node task ≤ℤ reading
  pub first : (other : Task) → IsPending network device node other → reading_for network node other ≤ℤ reading
      → IsBefore (order_of network other) (order_of network task) → ⊥
