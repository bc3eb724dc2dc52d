-- The rows of a switch together.
use Rattle.std.specs.List.{All, Contains, last_or}
use Rattle.std.specs.Prelude.{◌*◌, ◌+ℤ◌, ◌+◌, ◌<ℤ◌, ◌<◌, ◌==◌, ◌^◌, ◌↔◌, ◌≡◌, ◌≤ℤ◌, ◌≤◌, IfSome, List, None, Option}
use Rattle.std.specs.Prelude.{Some, filter, length, option_and_then, slice_index_or, slice_set, ℕ, ℤ}
use Rattle.net_plan.specs.declared.{ids.{DeviceId.DeviceId, RowId.RowId, VlId.VlId}, network.Network.Network}
use Rattle.run_law.specs.{declared.steps.Arrival.Arrival, machines.Nodes.{ClockTask, TakenFrame, dispatching}}
use Rattle.{run_law.specs.machines.Tasks.value_of, tte_units.specs.Amount.amount}
use Rattle.schedule_tables.specs.{Entries.{IsEntry, source_of}, declared.entry.Entry.Entry}
use Rattle.switch_ports.specs.Leaving.{AreChained, AreEach, AreEachUpTo, AreKeys, AreLeaving, HasRow, IsFirstOf, IsFit}
use Rattle.switch_ports.specs.Leaving.{IsLeaving, held_by, key_by, reopened, with_taking}
use Rattle.switch_ports.specs.declared.departures.{Departure.Departure, Held.Held}
use Rattle.switch_ports.specs.declared.{departures.Departures.Departures, standpoint.Standpoint.Standpoint}
use Rattle.sync_state.specs.declared.answers.Verdict.TheVariants.{AsyncClique, Cleared, Corrected, SyncClique}
use Rattle.sync_state.specs.declared.{answers.Verdict.Verdict, state.State.{State, TheVariants.Synchronised}}
use Rattle.run_law.specs.declared.steps.Arrival.TheVariants as arrivals

-- ---- what holds at any time

-- the rows are in their ranges and in order, and have these keys
pub record IsReady (departures : Departures) : Type 0 where
  pub fit : All IsFit departures.rows.items
  pub chained : AreChained departures.rows.items departures.lasts.items
  pub keys : AreKeys departures.rows.items departures.keys

-- these are the rows of the device at the beginning
pub record IsBegun (network : Network) (device : DeviceId) (departures : Departures) : Type 0 where
  pub rows : AreLeaving network device (length network.row) departures.rows.items departures.lasts.items
  pub keys : AreKeys departures.rows.items departures.keys
  pub next : departures.next ≡ None

-- the first of what the rows have still to dispatch comes next
abbrev pub KnowsNext : ℤ → Departures → Type 0
KnowsNext adjustment departures = IsFirstOf adjustment departures.rows.items departures.next

-- one departure is another
pub record Sets (place : ℕ) (departure : Departure) (old new : Departures) : Type 0 where
  pub rows : new.rows.items ≡ slice_set old.rows.items place departure
  pub lasts : new.lasts ≡ old.lasts
  pub keys : new.keys ≡ slice_set old.keys place (key_by departure)

-- each row is what this makes of it
pub record Changes (f : Departure → Departure) (old new : Departures) : Type 0 where
  pub rows : AreEach f old.rows.items new.rows.items
  pub lasts : new.lasts ≡ old.lasts
  pub keys : AreKeys new.rows.items new.keys

-- ---- loops over rows

-- as many rows are left where this is the next one to be done, from the last down
abbrev pub bound_of : Option ℕ → ℕ
bound_of None = 0
bound_of (Some place) = place + 1

-- each row from this place on is what this makes of it, and the others are as they were
pub record AreEachFrom (f : Departure → Departure) (n : ℕ) (old new : List Departure) : Type 0 where
  pub count : length new ≡ length old
  pub done : (k : ℕ) (d : Departure) → n ≤ k → k < length old → slice_index_or new k d ≡ f (slice_index_or old k d)
  pub rest : (k : ℕ) (d : Departure) → k < n → k < length old → slice_index_or new k d ≡ slice_index_or old k d

-- the rows of the virtual link are done down to this one, which is next
pub record IsTakingAt (f : Departure → Departure) (vl : ℕ) (at : Option ℕ) (old new : Departures) : Type 0 where
  pub rows : AreEachFrom f (bound_of at) old.rows.items new.rows.items
  pub next : IfSome at (λ place. (place < length old.rows.items)
      × ((d : Departure) → (slice_index_or old.rows.items place d).of.vl.0 ≡ vl))
  pub lasts : new.lasts ≡ old.lasts
  pub keys : AreKeys new.rows.items new.keys

-- the first rows are done
pub record IsReopeningAt (f : Departure → Departure) (place : ℕ) (old new : Departures) : Type 0 where
  pub rows : AreEachUpTo f place old.rows.items new.rows.items
  pub lasts : new.lasts ≡ old.lasts
  pub keys : AreKeys new.rows.items new.keys

-- ---- what is to come

-- the last frame of the virtual link that was taken
abbrev pub last_of : List TakenFrame → VlId → Option TakenFrame
last_of taken vl = last_or None (filter (λ taking. taking.vl.0 == vl.0) taken)

-- the row is one of the device, with the last frame of its virtual link among those taken
pub record IsDeparture (network : Network) (device : DeviceId) (taken : List TakenFrame) (d : Departure) : Type 0 where
  pub of : IsLeaving network device d.of
  pub held : d.held
      ≡ option_and_then (λ taking. held_by (amount network.cycle) d.of taking.cycle taking.at) (last_of taken d.of.vl)
  pub fit : IsFit d

-- these are all rows that leave the device, with the last frames of their virtual links
pub record HasDepartures (network : Network) (device : DeviceId) (departures : Departures)
    (taken : List TakenFrame) : Type 0 where
  pub each : All (IsDeparture network device taken) departures.rows.items
  pub complete : (place : ℕ) (entry : Entry) → IsEntry network place entry → source_of entry ≡ device
      → HasRow departures.rows.items place
  pub ready : IsReady departures

-- the row has still to dispatch this frame
pub record IsToCome (changed : ℤ) (done : List ClockTask) (d : Departure) (held : Held) : Type 0 where
  pub is : d.held ≡ Some held
  pub ahead : changed <ℤ held.value.0
  pub not_yet : Contains done (dispatching d.of.row held.cycle) → ⊥

-- the row awaits the frame that it has still to dispatch, if there is one
abbrev pub AwaitsSo : ℤ → List ClockTask → Departure → Type 0
AwaitsSo changed done d = (held : Held) → (d.awaited ≡ Some held) ↔ IsToCome changed done d held

-- a synchronised switch knows which dispatch comes next, where its local clock shows this value
pub record Awaits (network : Network) (departures : Departures) (adjustment changed : ℤ) (done : List ClockTask)
    (local : ℤ) : Type 0 where
  pub each : All (AwaitsSo changed done) departures.rows.items
  pub next : KnowsNext adjustment departures
  pub passed : (row : RowId) (cycle : ℕ) → Contains done (dispatching row cycle)
      → value_of network (dispatching row cycle) ≤ℤ local

-- none comes in another state
abbrev pub AwaitsIn : State → Network → Departures → ℤ → ℤ → List ClockTask → ℤ → Type 0
AwaitsIn Synchronised network departures adjustment changed done local =
    Awaits network departures adjustment changed done local
AwaitsIn other network departures adjustment changed done local = departures.next ≡ None

-- ---- what a call changes

-- it has told anew what is to come, where the adjustment has changed at the local value
pub record Reopens (old : Departures) (changed adjustment : ℤ) (new : Departures) : Type 0 where
  pub changes : Changes (reopened changed) old new
  pub next : KnowsNext adjustment new

-- it has told what is to come after a correction point that came to this
abbrev pub IsAwaitedSo : Departures → ℤ → ℤ → Verdict → Departures → Type 0
IsAwaitedSo old changed adjustment (Corrected by) new = Reopens old changed adjustment new
IsAwaitedSo old changed adjustment SyncClique new = new ≡ record old { next = None }
IsAwaitedSo old changed adjustment AsyncClique new = new ≡ record old { next = None }
IsAwaitedSo old changed adjustment Cleared new = new ≡ old

-- a synchronised switch has kept the frame that it has taken for the rows of its virtual link
pub record Keeps (old : Departures) (length : ℕ) (changed : ℤ) (at : Standpoint) (vl : VlId) (cycle : ℕ)
    (new : Departures) : Type 0 where
  pub synchronised : at.state ≡ Synchronised
  pub in_range : cycle * length ≤ 2 ^ 62
  pub changes : Changes
      (with_taking length changed
      (record { vl = vl; cycle = cycle; at = record { 0 = at.reading.0 +ℤ at.adjustment.0 } }))
      old new
  pub next : KnowsNext at.adjustment.0 new

-- it has kept a frame of which this became
abbrev pub IsKeptSo : Departures → ℕ → ℤ → Standpoint → Arrival → Departures → Type 0
IsKeptSo old length changed at (arrivals.Accepted vl cycle) new = Keeps old length changed at vl cycle new
IsKeptSo old length changed at other new = new ≡ old
