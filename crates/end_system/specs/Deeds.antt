-- What an end system has still to do by itself, of each kind.
use Rattle.std.specs.{List.Contains, Prelude.{◌<ℤ◌, ◌<◌, ◌≡◌, ◌≤◌, ◌⊎◌, List, Some, true, ℕ, ℤ}}
use Rattle.net_plan.specs.{Places.is_master, declared.{ids.{DeviceId.DeviceId, RowId.RowId}, network.Network.Network}}
use Rattle.run_law.specs.machines.{Nodes.{ClockTask, correcting, dispatching, sending}, Tasks.value_of}
use Rattle.run_law.specs.scenario.Devices.{has_role}
use Rattle.schedule_tables.specs.{Dispatches.{IsBelow, dispatch_order}, Entries.{IsEntry, source_of}, Windows.OccursIn}
use Rattle.schedule_tables.specs.declared.entry.Entry.{Entry}
use Rattle.sync_state.specs.{Standing.{Standing, next_point}, declared.state.State.TheVariants.Synchronised}

-- the device is the sender of the row's frames, and its virtual link occurs in the cycle
pub record Leaves (network : Network) (device : DeviceId) (row : RowId) (cycle : ℕ) : Type 0 where
  pub entry : Entry
  pub is : IsEntry network row.0 entry
  pub leaves : source_of entry ≡ device
  pub occurs : OccursIn entry.vl cycle
  pub sender : entry.vl.sender ≡ device

-- the deed is one of an end system where its synchronisation stands so
abbrev pub IsOwnDeed : Network → DeviceId → Standing → ClockTask → Type 0
IsOwnDeed network device s (sending cycle) = (has_role network is_master device ≡ true) × (s.state ≡ Synchronised)
    × (1 ≤ cycle)
IsOwnDeed network device s (correcting cycle) = next_point s ≡ Some cycle
IsOwnDeed network device s (dispatching row cycle) = (s.state ≡ Synchronised) × Leaves network device row cycle

-- it has still to be done: the local clock was below its value after the last change, and it is not among those done
pub record IsAhead (network : Network) (device : DeviceId) (s : Standing) (changed : ℤ) (done : List ClockTask)
    (deed : ClockTask) : Type 0 where
  pub own : IsOwnDeed network device s deed
  pub ahead : changed <ℤ value_of network deed
  pub not_yet : Contains done deed → ⊥

-- the dispatch comes before the other: in an earlier cycle, or in the same one at an earlier place
abbrev pub IsSooner : Network → RowId → ℕ → RowId → ℕ → Type 0
IsSooner network row cycle other n =
    (cycle < n) ⊎ ((cycle ≡ n) × IsBelow (dispatch_order network row) (dispatch_order network other))

-- the sending of this cycle is the next: those before it that were ahead are done, and no later one is
pub record IsNextSending (network : Network) (changed : ℤ) (done : List ClockTask) (cycle : ℕ) : Type 0 where
  pub begun : 1 ≤ cycle
  pub ahead : changed <ℤ value_of network (sending cycle)
  pub done_before : (n : ℕ) → Contains done (sending n) → n < cycle
  pub rest : (n : ℕ) → 1 ≤ n → changed <ℤ value_of network (sending n) → n < cycle → Contains done (sending n)

-- the correction point of this cycle is the next
pub record IsNextCorrection (network : Network) (s : Standing) (changed : ℤ) (done : List ClockTask)
    (cycle : ℕ) : Type 0 where
  pub point : next_point s ≡ Some cycle
  pub ahead : changed <ℤ value_of network (correcting cycle)
  pub done_before : (n : ℕ) → Contains done (correcting n) → n < cycle

-- the dispatch of this row in this cycle is the next
pub record IsNextDispatch (network : Network) (device : DeviceId) (changed : ℤ) (done : List ClockTask) (row : RowId)
    (cycle : ℕ) : Type 0 where
  pub leaves : Leaves network device row cycle
  pub ahead : changed <ℤ value_of network (dispatching row cycle)
  pub done_before : (other : RowId) (n : ℕ) → Contains done (dispatching other n) → IsSooner network other n row cycle
  pub rest : (other : RowId) (n : ℕ) → Leaves network device other n
      → changed <ℤ value_of network (dispatching other n) → IsSooner network other n row cycle
      → Contains done (dispatching other n)
