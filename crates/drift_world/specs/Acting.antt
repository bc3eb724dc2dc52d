-- What a device has to do, and where its acts lead.
use Rattle.std.specs.Prelude.{◌++◌, ◌+◌, ◌<ℤ◌, ◌<◌, ◌^◌, ◌↔◌, ◌∷◌, ◌≡◌, All, List, Option, Some, [], false, pos}
use Rattle.std.specs.Prelude.{slice_get, ℕ}
use Rattle.drift_world.specs.{Parts.{IsFirstPart, IsNoSooner, IsNoSoonerLeft, part_place, part_rank}, Showing.IsOf}
use Rattle.drift_world.specs.declared.{part.{Part.Part, ToDo.{ToDo, TheVariants.{Next, Now}}}, state.State.State}
use Rattle.{run_law.specs.machines.Nodes.Node, world_state.specs.Keeping.{Meaning, keeps}}
use Rattle.{drift_world.specs.Views.world_of, net_plan.specs.declared.ids.DeviceId.DeviceId}
use Rattle.world_law.specs.world.{Calls.{HasActed, moment_of}, Moves.ComesFirst, World.{Stands, World}}
use Rattle.{net_plan.specs.declared.network.Network.Network, run_law.specs.records.Order.{IsBefore, IsIn}}
use Rattle.run_law.specs.{declared.{note.Note.Note, steps.Act.Act}, records.Ranks.rank, scenario.Scenarios.Scenario}
use Rattle.run_law.specs.machines.Tasks.{IsDueReading, IsPending, Task, reading_for}
use Rattle.world_state.specs.declared.{contents.{Settled.Settled, Waits.Waits}, kept.Kept.Kept}
use Rattle.tte_units.specs.{Amount.units_of, declared.units.Units.Units}

-- in each scenario whose clocks, ways and broken devices the state shows, the device has something to do now, and the
-- first of it is of the part
abbrev pub IsDueAt : {C M : Type 0} → (C → ℕ → ℕ) → Meaning M → Network → State C M
    → Part → DeviceId → Type 0
IsDueAt reading stands network state part device =
    (s : Scenario) (machine : Kept _) (node : Node) → IsOf reading s network state
    → slice_get state.machines.items device.0 ≡ Some machine → keeps stands machine s.network device node
    → IsFirstPart s.network device node (pos (s.reading device state.time)) part

-- and in each such scenario nothing that it has to do now is of an earlier part
abbrev pub IsFrom : {C M : Type 0} → (C → ℕ → ℕ) → Meaning M → Network → State C M
    → Part → DeviceId → Type 0
IsFrom reading stands network state part device =
    (s : Scenario) (machine : Kept _) (node : Node) → IsOf reading s network state
    → slice_get state.machines.items device.0 ≡ Some machine → keeps stands machine s.network device node
    → IsNoSooner s.network device node (pos (s.reading device state.time)) part

-- it has nothing to do now
abbrev pub IsIdle : {M : Type 0} → Meaning M → Scenario → ℕ → DeviceId → Kept M → Type 0
IsIdle stands s now device machine =
    (node : Node) (task : Task) → keeps stands machine s.network device node → IsPending s.network device node task
    → pos (s.reading device now) <ℤ reading_for s.network node task

-- and so in each such scenario
abbrev pub IsIdleAt : {C M : Type 0} → (C → ℕ → ℕ) → Meaning M → Network → State C M
    → DeviceId → Type 0
IsIdleAt reading stands network state device =
    (s : Scenario) (machine : Kept _) → IsOf reading s network state
    → slice_get state.machines.items device.0 ≡ Some machine
    → IsIdle stands s state.time device machine

-- the device acts by itself at this reading next, or never
abbrev pub IsNextDue : {C M : Type 0} → Meaning M → State C M → DeviceId → Option Units
    → Type 0
IsNextDue stands state device due =
    (machine : Kept _) (network : Network) (d : DeviceId) (node : Node)
    → slice_get state.machines.items device.0 ≡ Some machine → keeps stands machine network d node
    → IsDueReading network d node due

-- nothing that the device has to do at the time is of an earlier part
abbrev pub IsPartAt : {C M : Type 0} → (C → ℕ → ℕ) → Meaning M → State C M → DeviceId → ℕ
    → Part → Type 0
IsPartAt reading stands state device time part =
    (clock : _) (machine : Kept _) (network : Network) (d : DeviceId) (node : Node)
    → slice_get state.clocks.items device.0 ≡ Some clock → slice_get state.machines.items device.0 ≡ Some machine
    → keeps stands machine network d node → IsNoSooner network d node (pos (reading clock time)) part

-- all that is settled is of a higher rank than this
abbrev pub AreAbove : {C M : Type 0} → ℕ → State C M → Type 0
AreAbove low state = All (λ (z : Settled). low < rank z.body) state.settled.items

-- this is what the device has to do
abbrev pub IsLeft : {C M : Type 0} → (C → ℕ → ℕ) → Meaning M → Network → State C M
    → DeviceId → ToDo → Type 0
IsLeft reading stands network state device (Now part) = IsDueAt reading stands network state part device
IsLeft reading stands network state device (Next due) =
    IsNextDue stands state device due × IsIdleAt reading stands network state device

-- the world stands, with its frontier not before the place
abbrev pub StandsFrom : {C M : Type 0} → (C → ℕ → ℕ) → Meaning M → Scenario
    → World C (Kept M) → List Note → List ℕ → Type 0
StandsFrom reading stands s world notes p =
    (new : Stands reading (keeps stands) s world notes) × (IsBefore new.frontier p → ⊥)

-- the device has acted, and none of the records of it stands where it did: all are put in
pub record ActsOn {C M : Type 0} (reading : C → ℕ → ℕ) (stands : Meaning M) (network : Network) (part : Part)
    (device : DeviceId) (old new : State C M) : Type 0 where
  pub same : new ≡ record old { machines = new.machines; early = false; settled = new.settled; spare = new.spare }
  pub above : AreAbove (part_rank part) new
  pub then_stands : (s : Scenario) (notes : List Note)
      → (was : Stands reading (keeps stands) s (world_of network old) notes)
      → ComesFirst reading (keeps stands) s (world_of network old) notes was (part_place part old.time device)
      → StandsFrom reading stands s (world_of network new) notes (part_place part old.time device)
  pub later : (left : ToDo) → IsLeft reading stands network new device left → IsNoSoonerLeft part left
  pub acted : (s : Scenario) (notes : List Note) (machine : Kept M)
      → Stands reading (keeps stands) s (world_of network old) notes
      → slice_get old.machines.items device.0 ≡ Some machine
      → (act : Act) × (after : Kept M) × (slice_get new.machines.items device.0 ≡ Some after)
      × HasActed (keeps stands) s.network device (moment_of s device old.time) act machine after

-- the device has acted, and the record that stands where it did is given
pub record ActGives {C M : Type 0} (reading : C → ℕ → ℕ) (stands : Meaning M) (network : Network) (part : Part)
    (device : DeviceId) (old new : State C M) (note : Note) : Type 0 where
  pub same : new ≡ record old {
    machines = new.machines;
    early = false;
    settled = new.settled;
    spare = new.spare;
    under_way = new.under_way;
    waiting = new.waiting;
    stored = new.stored;
    given = old.given + 1;
  }
  pub waiting : (w : Waits) → w.device.0 < 2 ^ 32 → IsIn w new.waiting.items ↔ IsIn w old.waiting.items
  pub time : note.time ≡ units_of old.time
  pub then_stands : (s : Scenario) (notes : List Note)
      → (was : Stands reading (keeps stands) s (world_of network old) notes)
      → ComesFirst reading (keeps stands) s (world_of network old) notes was (part_place part old.time device)
      → Stands reading (keeps stands) s (world_of network new) (notes ++ note ∷ [])
