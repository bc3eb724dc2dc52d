-- Where a state stands, and what a step of it leaves.
use Rattle.std.specs.Prelude.{◌*◌, ◌++◌, ◌+◌, ◌<◌, ◌^◌, ◌↔◌, ◌∷◌, ◌≡◌, ◌≤ℤ◌, ◌≤◌, ◌⊎◌, IfSome, IsSomeAnd, List}
use Rattle.std.specs.Prelude.{None, Option, Some, [], length, pos, slice_get, ℕ}
use Rattle.net_plan.specs.declared.{event.What.What, ids.DeviceId.DeviceId, network.Network.Network}
use Rattle.run_law.specs.{declared.note.Note.Note, records.{Happenings.{Happening, happenings}, Order.{IsIn, NoneBefore}, Ranks.place_of}}
use Rattle.run_law.specs.{machines.{Nodes.Node, Tasks.{IsPending, Task, reading_for}}, scenario.Scenarios.Scenario}
use Rattle.tte_units.specs.declared.units.Units.{Units}
use Rattle.world_law.specs.{steps.Turns.TurnsBy, world.{Moves.{ComesFirst, settled_as}, World.{Stands, World}}}
use Rattle.world_state.specs.{Acting.body_of, Applying.device_in, Keeping.{Meaning, keeps}, Views.settled_at}
use Rattle.world_state.specs.{declared.{contents.{Settled.Settled, Waits.Waits}, kept.Kept.Kept}, timers.Times.{AreFrom, never}}
use Rattle.world_state.specs.{Hearing.TellsBefore, declared.{hearing.Before.{Before, TheVariants.{Due, Same}}, timers.Timer.Timer}}
use Rattle.drift_world.specs.{Acting.IsPartAt, Parts.{IsNoSooner, part_rank}, Sound.IsSized, Views.world_of}
use Rattle.drift_world.specs.declared.state.State.{State}
use Rattle.drift_world.specs.declared.part.Part.{Part}

-- some scenario and records leave the state where it stands
pub record IsRunning {C M : Type 0} (reading : C → ℕ → ℕ) (stands : Meaning M) (network : Network) (state : State C M)
    : Type 0 where
  pub s : Scenario
  pub notes : List Note
  pub is : Stands reading (keeps stands) s (world_of network state) notes

-- where the old state stands, the new one does, with the same records
abbrev pub StandsOn : {C M : Type 0} → (C → ℕ → ℕ) → Meaning M → Network → State C M → State C M → Type 0
StandsOn reading stands network old new =
    (s : Scenario) (notes : List Note) → Stands reading (keeps stands) s (world_of network old) notes
    → Stands reading (keeps stands) s (world_of network new) notes

-- or with these records more
abbrev pub StandsWith : {C M : Type 0} → (C → ℕ → ℕ) → Meaning M → Network → State C M → State C M → List Note → Type 0
StandsWith reading stands network old new more =
    (s : Scenario) (notes : List Note) → Stands reading (keeps stands) s (world_of network old) notes
    → Stands reading (keeps stands) s (world_of network new) (notes ++ more)

-- the source at this place comes first
pub record IsAt {C M : Type 0} (reading : C → ℕ → ℕ) (stands : Meaning M) (network : Network) (state : State C M)
    (place : List ℕ) : Type 0 where
  pub s : Scenario
  pub notes : List Note
  pub is : Stands reading (keeps stands) s (world_of network state) notes
  pub first : ComesFirst reading (keeps stands) s (world_of network state) notes is place

-- each is not before those ahead of it
abbrev pub InOrder : List Happening → Type 0
InOrder [] = Unit {0}
InOrder (x ∷ xs) = NoneBefore place_of xs (place_of x) × InOrder xs

-- the record, if there is one, is that of its body, given these
abbrev pub IsOwn : Network → Network → ℕ → List Happening → Option Settled → Type 0
IsOwn other network now hs None = Unit {0}
IsOwn other network now hs (Some z) = settled_at network now z ≡ settled_as other hs now z.body

-- the source at the place is worked off in this world, in which what is to come is in order, and these are its records:
-- the first, and what comes later
pub record TurnsIn {C M : Type 0} (reading : C → ℕ → ℕ) (stands : Meaning M) (network : Network) (s : Scenario)
    (notes : List Note) (world : World C (Kept M)) (place : List ℕ) (first second : Option Settled) : Type 0 where
  pub order : InOrder world.settled
  pub first_is : IsOwn s.network network world.now (happenings s.network notes) first
  pub second_is : IsOwn s.network network world.now (happenings s.network notes) second
  pub by : TurnsBy reading (keeps stands) s notes (body_of first ++ body_of second) world place

-- where the source at the place comes first, it is so
abbrev pub TurnsPast : {C M : Type 0} → (C → ℕ → ℕ) → Meaning M → Network → State C M
    → State C M → List ℕ → Option Settled → Option Settled → Type 0
TurnsPast reading stands network old mid place first second =
    (s : Scenario) (notes : List Note) (is : Stands reading (keeps stands) s (world_of network old) notes)
    → ComesFirst reading (keeps stands) s (world_of network old) notes is place
    → TurnsIn reading stands network s notes (world_of network mid) place first second

-- of what the timers are for, a step changes that of one device at most
pub record ChangesOnly {C M : Type 0} (device : ℕ) (old new : State C M) : Type 0 where
  pub clocks : new.clocks ≡ old.clocks
  pub time : new.time ≡ old.time
  pub ended : new.ended ≡ old.ended
  pub machines : (i : ℕ) → (i ≡ device → ⊥) → slice_get new.machines.items i ≡ slice_get old.machines.items i
  pub waiting : (w : Waits) → (w.device.0 ≡ device → ⊥) → IsIn w new.waiting.items ↔ IsIn w old.waiting.items

-- ---- timers

-- no frame that waits at the device is permanent before the time, and where that is a time, one is then
pub record IsRipeAt {C : Type 0} (reading : C → ℕ
    → ℕ) (clock : C) (waiting : List Waits) (device now time : ℕ) : Type 0 where
  pub none : (w : Waits) → IsIn w waiting → w.device.0 ≡ device → (u : ℕ) → now ≤ u → u ≤ 2 ^ 60
      → w.point.0 ≤ℤ pos (reading clock u) → time ≤ u
  pub one : time < never → (w : Waits) × IsIn w waiting × (w.device.0 ≡ device)
      × (w.point.0 ≤ℤ pos (reading clock time))

-- the device has nothing to do before the time, and where that is a time, it has something to do then, and nothing of an
-- earlier part
pub record ActsAt {C M : Type 0} (reading : C → ℕ → ℕ) (stands : Meaning M) (network : Network) (clock : C)
    (machine : Kept M) (device : DeviceId) (now time : ℕ) (part : Part) : Type 0 where
  pub none : (node : Node) (task : Task) → keeps stands machine network device node → IsPending network device node task
      → (u : ℕ) → now ≤ u → u ≤ 2 ^ 60 → reading_for network node task ≤ℤ pos (reading clock u) → time ≤ u
  pub one : time < never → (node : Node) → keeps stands machine network device node
      → (task : Task) × IsPending network device node task × (reading_for network node task ≤ℤ pos (reading clock time))
  pub late : time < never → (node : Node) → keeps stands machine network device node
      → IsNoSooner network device node (pos (reading clock time)) part

-- the timer of the device for the frames that wait at it is right
pub record IsRipeTimed {C M : Type 0} (reading : C → ℕ → ℕ) (timers : List Timer) (state : State C M)
    (device : DeviceId) : Type 0 where
  pub clock : C
  pub of_clock : slice_get state.clocks.items device.0 ≡ Some clock
  pub ripe : ℕ
  pub of_ripe : slice_get timers device.0 ≡ Some (record { time = ripe; rank = 3 })
  pub ripens : IsRipeAt reading clock state.waiting.items device.0 state.time ripe

-- that for what it does by itself is right
pub record IsActTimed {C M : Type 0} (reading : C → ℕ → ℕ) (stands : Meaning M) (network : Network)
    (timers : List Timer) (state : State C M) (device : DeviceId) : Type 0 where
  pub clock : C
  pub of_clock : slice_get state.clocks.items device.0 ≡ Some clock
  pub machine : Kept M
  pub of_machine : slice_get state.machines.items device.0 ≡ Some machine
  pub act : ℕ
  pub part : Part
  pub of_act : slice_get timers (length network.device + device.0) ≡ Some (record { time = act; rank = part_rank part })
  pub acts : ActsAt reading stands network clock machine device state.time act part

-- both timers of the device are right: that for the frames that wait at it, and that for what it does by itself
pub record IsTimed {C M : Type 0} (reading : C → ℕ → ℕ) (stands : Meaning M) (network : Network) (timers : List Timer)
    (state : State C M) (device : DeviceId) : Type 0 where
  pub ripe : IsRipeTimed reading timers state device
  pub act : IsActTimed reading stands network timers state device

-- timers may be set: there are two of each device, and some scenario and records leave the state so
pub record MaySetTimers {C M : Type 0} (last_step : C → ℕ) (reading : C → ℕ → ℕ) (stands : Meaning M)
    (network : Network) (state : State C M) : Type 0 where
  pub sized : IsSized last_step network state
  pub slots : length state.timers ≡ 2 * length network.device
  pub running : IsRunning reading stands network state

-- timers of the device may be set: there are two of each device, and some scenario and records leave the state so
pub record MayRekey {C M : Type 0} (last_step : C → ℕ) (reading : C → ℕ → ℕ) (stands : Meaning M) (network : Network)
    (state : State C M) (device : DeviceId) : Type 0 where
  pub sized : IsSized last_step network state
  pub there : device.0 < length network.device
  pub few : length network.device < 2 ^ 32
  pub slots : length state.timers ≡ 2 * length network.device
  pub running : IsRunning reading stands network state

-- timers alone are set, in no other slots than these, and to no time that is past
pub record SetsOnly {C M : Type 0} (IsSet : ℕ → Type 0) (old new : State C M) : Type 0 where
  pub same : new ≡ record old { timers = new.timers }
  pub sized : length new.timers ≡ length old.timers
  pub others : (slot : ℕ) → (IsSet slot → ⊥) → slice_get new.timers slot ≡ slice_get old.timers slot
  pub later : AreFrom old.time old.timers → AreFrom new.time new.timers

-- the slot is that of a timer of the device that the event changes
abbrev pub IsSlotBy : Network → What → ℕ → Type 0
IsSlotBy network what slot =
    IsSomeAnd (device_in what) (λ device. (slot ≡ device.0) ⊎ (slot ≡ length network.device + device.0))

-- the timers of the device are set, and they alone
pub record IsRekeyed {C M : Type 0} (reading : C → ℕ → ℕ) (stands : Meaning M) (network : Network) (device : DeviceId)
    (old new : State C M) : Type 0 where
  pub sets : SetsOnly (λ slot. (slot ≡ device.0) ⊎ (slot ≡ length network.device + device.0)) old new
  pub timed : IsTimed reading stands network new.timers new device

-- the timer of the device is right for a machine that acts by itself at this reading next, or never
pub record IsDueBy {C : Type 0} (reading : C → ℕ → ℕ) (clock : C) (due : Option Units) (now time : ℕ) : Type 0 where
  pub none : IfSome due (λ at. (u : ℕ) → now ≤ u → u ≤ 2 ^ 60 → at.0 ≤ℤ pos (reading clock u) → time ≤ u)
  pub one : time < never → IsSomeAnd due (λ at. at.0 ≤ℤ pos (reading clock time))

-- so is a timer of one of the parts, but for the part
pub record IsTimerBy {C : Type 0} (reading : C → ℕ → ℕ) (clock : C) (due : Option Units) (now : ℕ) (timer : Timer) : Type 0 where
  pub by : IsDueBy reading clock due now timer.time
  pub part : Part
  pub rank_is : timer.rank ≡ part_rank part

-- and so is that of the state
abbrev pub IsDueTimed : {C M : Type 0} → (C → ℕ → ℕ) → Network → State C M → ℕ → Option Units → Type 0
IsDueTimed reading network state device due =
    (clock : _) (timer : Timer) → slice_get state.clocks.items device ≡ Some clock
    → slice_get state.timers (length network.device + device) ≡ Some timer → IsTimerBy reading clock due state.time timer

-- and so is that of the state for what the device had to do before
abbrev pub IsTimedFor : {C M : Type 0} → (C → ℕ → ℕ) → Meaning M → Network → State C M
    → ℕ → Before → Type 0
IsTimedFor reading stands network state device Same =
    IsActTimed reading stands network state.timers state (record { 0 = device })
IsTimedFor reading stands network state device (Due due) = IsDueTimed reading network state device due

-- this is what the device had to do before its machine became another
abbrev pub ToldBefore : {C M : Type 0} → Meaning M → State C M → State C M → ℕ → Before
    → Type 0
ToldBefore stands old new device before =
    (was is : Kept _) → slice_get old.machines.items device ≡ Some was → slice_get new.machines.items device ≡ Some is
    → TellsBefore (keeps stands) was is before

-- the timer is that of a part, and nothing that the device has to do at its time is of an earlier one
abbrev pub KeepsPart : {C M : Type 0} → (C → ℕ → ℕ) → Meaning M → Network → State C M → ℕ
    → Type 0
KeepsPart reading stands network state device =
    (timer : Timer) (part : Part) → slice_get state.timers (length network.device + device) ≡ Some timer
    → timer.rank ≡ part_rank part → IsPartAt reading stands state (record { 0 = device }) timer.time part
