-- How a world goes on, one source after the other.
use Rattle.std.specs.Prelude.{◌+◌, ◌-◌, ◌<◌, ◌^◌, ◌∷◌, ◌≡◌, ◌≤ℤ◌, ◌≤◌, ◌⊎◌, Bool, Err, List, Ok, Result}
use Rattle.std.specs.{Prelude.{Some, [], false, length, pos, slice_get, true, ℕ}, VecDeque.{deque_capacity, deque_len}}
use Rattle.{drift_world.specs.{Nearing.{IsLess, Nears}, Views.world_of}, tte_units.specs.Amount.units_of}
use Rattle.drift_world.specs.{Sourcing.{HasNothingBefore, IsRipePlace, due_place}, declared.source.Source.Source}
use Rattle.drift_world.specs.Stepping.{StandsOn, StandsWith}
use Rattle.{drift_world.specs.{Wells.IsWell, declared.state.State.State}, world_state.specs.declared.queue.DueAt.DueAt}
use Rattle.drift_world.specs.declared.{next.Turn.TheVariants.{Ends, Gives, GoesOn}, source.Source.TheVariants.Ripening}
use Rattle.{drift_world.specs.declared.next.Turn.Turn, world_state.specs.declared.timers.SlotTimer.SlotTimer}
use Rattle.drift_world.specs.declared.source.Source.TheVariants.{Act, Arrival, Clock, Departure, Events, Later}
use Rattle.net_plan.specs.{Ranges.IsInRange, declared.{ids.DeviceId.DeviceId, network.Network.Network}}
use Rattle.{drift_world.specs.Acting.IsFrom, run_law.specs.{declared.note.Note.Note, records.Ranks.{place_of, rank}}}
use Rattle.drift_world.specs.{Parts.{part_place, part_rank}, declared.part.Part.Part}
use Rattle.world_state.specs.{Frames.first_of, Keeping.{Meaning, keeps}, Views.{settled_at, waiting_as}}
use Rattle.run_law.specs.{records.Order.IsIn, runs.DueRecords.IsScenarioRun, scenario.Scenarios.Scenario}
use Rattle.world_law.specs.world.World.{Stands, clock_place, ripe_place}
use Rattle.world_state.specs.{declared.contents.{Settled.Settled, Waits.Waits}, queue.Places.{IsFirst, numbers_of}}

-- the place of a source, at the present time
abbrev pub source_place : ℕ → Source → List ℕ
source_place now Events = now ∷ 2 ∷ []
source_place now (Arrival place) = numbers_of place
source_place now (Ripening w) = ripe_place now (waiting_as w)
source_place now (Act part device) = part_place part now device
source_place now (Departure place) = numbers_of place
source_place now (Clock device) = clock_place now device
source_place now (Later time) = time ∷ []

-- the first that is under way is at this place of the present instant
pub record IsDueEntry {C M : Type 0} (network : Network) (state : State C M) (rank : ℕ) (place : DueAt) : Type 0 where
  pub first : IsFirst state.under_way.entries place
  pub now : place.at ≡ state.time
  pub rank_is : place.rank ≡ rank
  pub device : place.device < length network.device
  pub link : place.link < length network.link

-- the frame is the first that waits at its device, and permanent now
pub record IsRipe {C M : Type 0} (reading : C → ℕ
    → ℕ) (network : Network) (state : State C M) (w : Waits) : Type 0 where
  pub there : IsIn w state.waiting.items
  pub is : first_of state.waiting w.device.0 ≡ Some w
  pub of : w.device.0 < length network.device
  pub clock : C
  pub own : slice_get state.clocks.items w.device.0 ≡ Some clock
  pub reached : w.point.0 ≤ℤ pos (reading clock state.time)

-- the timer of the device is due now for this part, and nothing that it has to do now is of an earlier one
pub record IsActive {C M : Type 0} (reading : C → ℕ → ℕ) (stands : Meaning M) (network : Network) (state : State C M)
    (part : Part) (device : DeviceId) : Type 0 where
  pub of : device.0 < length network.device
  pub due : slice_get state.timers (length network.device + device.0)
      ≡ Some (record { time = state.time; rank = part_rank part })
  pub late : IsFrom reading stands network state part device

-- the clock of the device is to be shown
pub record IsToShow {C M : Type 0} (network : Network) (state : State C M) (device : DeviceId) : Type 0 where
  pub ended : state.ended ≡ true
  pub next : device.0 ≡ state.shown
  pub more : device.0 < length network.device

-- the source is there
abbrev pub IsThere : {C M : Type 0} → (C → ℕ → ℕ) → Meaning M → Network → State C M
    → Source → Type 0
IsThere reading stands network state Events = state.pending ≡ true
IsThere reading stands network state (Arrival place) = IsDueEntry network state 2 place
IsThere reading stands network state (Ripening w) = IsRipe reading network state w
IsThere reading stands network state (Act part device) = IsActive reading stands network state part device
IsThere reading stands network state (Departure place) = IsDueEntry network state 8 place
IsThere reading stands network state (Clock device) = IsToShow network state device
IsThere reading stands network state (Later time) = state.time < time

-- the place is that of what a slot is for, which is due now: the first of the frames that wait at its device, or the
-- acts of its device
abbrev pub IsSlotPlace : {C M : Type 0} → (C → ℕ → ℕ) → Network → State C M → SlotTimer → List ℕ → Type 0
IsSlotPlace reading network state due p =
    (p ≡ due_place (length network.device) due) ⊎ IsRipePlace reading network state due p

-- it is of the present instant
abbrev pub IsNow : Source → Type 0
IsNow (Later time) = ⊥
IsNow other = Unit {0}

-- it is no later than this
abbrev pub IsWithin : ℕ → Source → Type 0
IsWithin until (Later time) = time ≤ until
IsWithin until other = Unit {0}

-- its rank among those of the present instant: more than that of any record, where it is not of this
abbrev pub source_rank : Source → ℕ
source_rank Events = 2
source_rank (Arrival place) = 2
source_rank (Ripening w) = 3
source_rank (Act part device) = part_rank part
source_rank (Departure place) = 8
source_rank (Clock device) = 14
source_rank (Later time) = 15

-- something is settled, of which the first is of no higher rank than the source
pub record SettledFirst (settled : List Settled) (source : Source) : Type 0 where
  pub first : Settled
  pub others : List Settled
  pub whole : settled ≡ first ∷ others
  pub ahead : rank first.body ≤ source_rank source

-- or all that is settled is of a higher rank
abbrev pub SourceFirst : List Settled → Source → Type 0
SourceFirst settled source = (first : Settled) (others : List Settled) → settled ≡ first ∷ others
    → source_rank source < rank first.body

-- something is settled: the first of it is before all that is to come
pub record MayGive {C M : Type 0} (reading : C → ℕ → ℕ) (stands : Meaning M) (network : Network) (state : State C M)
    : Type 0 where
  pub first : Settled
  pub others : List Settled
  pub whole : state.settled.items ≡ first ∷ others
  pub before : HasNothingBefore reading stands network state (place_of (settled_at network state.time first))

-- there is room for two more records that are settled, there are numbers for them, and there is room for what a record
-- launches
pub record HasRoom {C M : Type 0} (network : Network) (state : State C M) : Type 0 where
  pub places : deque_len state.settled + 2 ≤ deque_capacity state.settled
  pub numbers : state.given + length state.settled.items + 2 < 2 ^ 64 - 1
  pub launches : length network.link < state.under_way.room

-- nothing is settled, no events are to be settled, and the end has not come
pub record IsCalm {C M : Type 0} (state : State C M) : Type 0 where
  pub pending : state.pending ≡ false
  pub ended : state.ended ≡ false
  pub empty : state.settled.items ≡ []

-- the source comes first of all that is under way
pub record IsForemost {C M : Type 0} (reading : C → ℕ → ℕ) (stands : Meaning M) (network : Network) (state : State C M)
    (source : Source) : Type 0 where
  pub there : IsThere reading stands network state source
  pub nothing : HasNothingBefore reading stands network state (source_place state.time source)

-- it may be worked off: it comes first of all, and there is room for what it comes to
pub record MayWork {C M : Type 0} (last_step : C → ℕ) (reading : C → ℕ → ℕ) (stands : Meaning M) (network : Network)
    (state : State C M) (source : Source) : Type 0 where
  pub range : IsInRange network
  pub well : IsWell last_step reading stands network state
  pub room : HasRoom network state
  pub foremost : IsForemost reading stands network state source
  pub first : SourceFirst state.settled.items source

-- a turn may be made towards the time: it is not the time yet, nor behind the end
pub record MayTurn {C M : Type 0} (last_step : C → ℕ) (reading : C → ℕ → ℕ) (stands : Meaning M) (network : Network)
    (until : ℕ) (state : State C M) : Type 0 where
  pub range : IsInRange network
  pub well : IsWell last_step reading stands network state
  pub limit : until ≤ 2 ^ 60 + 1
  pub early : state.time < until
  pub ended : state.ended ≡ true → until ≤ state.time + 1

-- ---- what a turn leaves

-- the record that a turn gave, if it gave this one
abbrev pub noted : Turn → Note → List Note
noted Gives note = note ∷ []
noted Ends note = []
noted GoesOn note = []

-- and one that may fail
abbrev pub given_in : {E : Type 0} → Result Turn E → Note → List Note
given_in (Ok turn) note = noted turn note
given_in (Err e) note = []

-- the clocks are as they were, no time is taken back, and the end has come only if it had
pub record IsAfter {C M : Type 0} (old new : State C M) : Type 0 where
  pub clocks : new.clocks ≡ old.clocks
  pub ended : new.ended ≡ old.ended
  pub later : old.time ≤ new.time

-- the state stays well, and stands with these records more
pub record IsKept {C M : Type 0} (last_step : C → ℕ) (reading : C → ℕ → ℕ) (stands : Meaning M) (network : Network)
    (old new : State C M) (more : List Note) : Type 0 where
  pub well : IsWell last_step reading stands network new
  pub after : IsAfter old new
  pub stands_then : StandsWith reading stands network old new more

-- the state has come to the time, and nothing of it but events is worked off
pub record HasCome {C M : Type 0} (new : State C M) (until : ℕ) : Type 0 where
  pub time : new.time ≡ until
  pub early : new.early ≡ true

-- what the answer of a turn says, besides where it stands: the record given is before the time; where it goes on, the
-- present is; and where it ends, and the end has not come, the world has come to the time
abbrev pub TurnSays : {C M : Type 0} → State C M → State C M → ℕ → Note → Turn → Type 0
TurnSays old new until note Gives = (note.time ≡ units_of new.time) × (new.time < until) × (new.given ≡ old.given + 1)
TurnSays old new until note GoesOn = (new.time < until) × (new.given ≡ old.given)
TurnSays old new until note Ends = old.ended ≡ false → until ≤ 2 ^ 60 → HasCome new until

-- what the answer to a call for the next record says, whether one is given: what the turn says that gives it, or that
-- ends; and where memory ran out, that it is not the time yet
abbrev pub NextSays : {C M E : Type 0} → State C M → State C M → ℕ → Note → Result Bool E → Type 0
NextSays old new until note (Ok true) = TurnSays old new until note Gives
NextSays old new until note (Ok false) = TurnSays old new until note Ends
NextSays old new until note (Err e) = new.time < until

-- where it ends, the records are the run up to the time
abbrev pub IsWhole : Scenario → List Note → ℕ → Turn → Type 0
IsWhole s notes until Ends = IsScenarioRun s (until ∷ []) notes
IsWhole s notes until other = Unit {0}

-- what it says of records, and how far it goes
pub record TurnsTo {C M : Type 0} (reading : C → ℕ → ℕ) (stands : Meaning M) (network : Network) (until : ℕ)
    (old new : State C M) (note : Note) (turn : Turn) : Type 0 where
  pub whole : (s : Scenario) (notes : List Note) → Stands reading (keeps stands) s (world_of network old) notes
      → IsWhole s notes until turn
  pub says : TurnSays old new until note turn
  pub nears : Nears network until old new turn

-- what it says, where time passes
abbrev pub PassSays : {C M : Type 0} → State C M → State C M → ℕ → Turn → Type 0
PassSays old new until Gives = ⊥
PassSays old new until GoesOn = (new.time < until) × (new.given ≡ old.given)
PassSays old new until Ends = old.ended ≡ false → until ≤ 2 ^ 60 → HasCome new until

-- what it is to work a source off: nothing is given, and the present instant stays
pub record IsStep {C M : Type 0} (last_step : C → ℕ) (reading : C → ℕ → ℕ) (stands : Meaning M) (network : Network)
    (old new : State C M) : Type 0 where
  pub well : IsWell last_step reading stands network new
  pub after : IsAfter old new
  pub still : StandsOn reading stands network old new
  pub time : new.time ≡ old.time
  pub given : new.given ≡ old.given

-- time passes, if it does, and nothing else changes but that events without an outcome are worked off
pub record IsPassed {C M : Type 0} (last_step : C → ℕ) (reading : C → ℕ → ℕ) (stands : Meaning M) (network : Network)
    (until : ℕ) (old new : State C M) (turn : Turn) : Type 0 where
  pub well : IsWell last_step reading stands network new
  pub still : StandsOn reading stands network old new
  pub whole : (s : Scenario) (notes : List Note) → Stands reading (keeps stands) s (world_of network old) notes
      → IsWhole s notes until turn
  pub says : PassSays old new until turn
  pub same : new ≡ record old { time = new.time; early = new.early; pending = new.pending }
  pub later : old.time ≤ new.time

-- a record of the present instant is given
abbrev pub GivesAt : {C M : Type 0} → State C M → State C M → Note → Turn → Type 0
GivesAt old new note Gives = (note.time ≡ units_of new.time) × (new.time ≡ old.time) × (new.given ≡ old.given + 1)
GivesAt old new note other = ⊥

-- what a turn says that works a source off: it gives a record of the present instant, or there is less to work off
abbrev pub WorkSays : {C M : Type 0} → Network → State C M → State C M → Note → Turn → Type 0
WorkSays network old new note Gives = GivesAt old new note Gives
WorkSays network old new note GoesOn = (new.time ≡ old.time) × (new.given ≡ old.given) × IsLess network old new
WorkSays network old new note Ends = ⊥
