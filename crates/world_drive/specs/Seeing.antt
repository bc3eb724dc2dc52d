-- The records of a run seen one after another.
use Rattle.std.specs.Prelude.{◌++◌, ◌+◌, ◌<ℤ◌, ◌<◌, ◌^◌, ◌∷◌, ◌≡◌, ◌≤ℤ◌, ◌⊎◌, List, None, Some, [], false, length, pos}
use Rattle.std.specs.Prelude.{true, ℕ}
use Rattle.{drift_world.specs.Running.last_time, run_law.specs.{declared.note.Note.Note, records.Ranks.place_of}}
use Rattle.{net_plan.specs.declared.event.Event.Event, tte_units.specs.{Amount.amount, declared.units.Units.Units}}
use Rattle.{net_plan.specs.declared.network.Network.Network, run_law.specs.records.Happenings.{Happening, happenings}}
use Rattle.{run_law.specs.records.Order.{IsBefore, IsIn}, world_law.specs.source.Applying.place_of_event}
use Rattle.world_drive.specs.{Observing.{Sees, Start, Stops, Told}, exact.Records.{AreRecordsBefore, AreRecordsSoFar}}
use Rattle.world_drive.specs.Sources.{MayGive}
use Rattle.world_drive.specs.{declared.observing.Cut.Cut, exact.Worlds.{ExactWorld, IsReached, StandsExact}}

-- ---- up to a time

-- no more records are given; or they are the run under the events up to a mark that is not behind the time
abbrev pub AreEarlier : Network → List Event → List Note → List Note → ℕ → Type 0
AreEarlier network events notes more until =
    (more ≡ [])
    ⊎ ((mark : List ℕ) × ((p : List ℕ) → IsBefore p mark → IsBefore p (until ∷ []))
    × AreRecordsBefore network events mark (notes ++ more))

-- the observer has seen the records that leave the world where it stands
pub record HasSeen {O : Type 0} (see : Sees O) (network : Network) (world : ExactWorld) (observer : O)
    (put : Told) : Type 0 where
  pub events : List Event
  pub notes : List Note
  pub old : Start O
  pub stands : StandsExact network world events notes
  pub sees : see network events notes None old put observer

-- the time up to which records are asked for
pub record IsAsked (world : ExactWorld) (until : Units) : Type 0 where
  pub order : pos world.now ≤ℤ until.0
  pub ended : world.ended ≡ true → until.0 ≤ℤ pos (world.now + 1)
  pub unended : world.ended ≡ false → until.0 ≤ℤ pos (2 ^ 60)

-- more records are seen, which are earlier than the time; after the end they are all that are
pub record SeesUntil {O : Type 0} (see : Sees O) (network : Network) (events : List Event) (notes : List Note)
    (until : Units) (from world : ExactWorld) (observer : O) (old : Start O) (put : Told) : Type 0 where
  pub more : List Note
  pub stands : StandsExact network world events (notes ++ more)
  pub sees : see network events (notes ++ more) None old put observer
  pub earlier : AreEarlier network events notes more (amount until)
  pub all : from.ended ≡ true → pos from.now <ℤ until.0
      → AreRecordsBefore network events (amount until ∷ []) (notes ++ more)

-- more records were given, which are earlier than the time, and there the observer failed
pub record CutsBefore {O : Type 0} (stop : Stops O) (network : Network) (events : List Event) (notes : List Note)
    (until : ℕ) (cut : Cut)
    (old : Start O) (put : Told) : Type 0 where
  pub more : List Note
  pub earlier : AreEarlier network events notes more until
  pub stops : stop network events (notes ++ more) cut old put

-- ---- an instant

-- the world stands at the time, and gave a record of it behind those of its events
pub record IsUnderwayAt (network : Network) (world : ExactWorld) (events : List Event) (notes : List Note)
    (time : Units) : Type 0 where
  pub stands : StandsExact network world events notes
  pub now : time.0 ≡ pos world.now
  pub limit : world.ended ≡ false → world.now < 2 ^ 60
  pub given : Happening
  pub there : IsIn given (happenings network notes)
  pub behind : IsBefore (world.now ∷ 2 ∷ []) (place_of given)

-- the observer has seen these records, and waits for the end of the instant
pub record HasSeenInstant {O : Type 0} (see : Sees O) (network : Network) (world : ExactWorld) (time : Units)
    (observer : O) (put : Told) : Type 0 where
  pub events : List Event
  pub notes : List Note
  pub old : Start O
  pub at : IsUnderwayAt network world events notes time
  pub sees : see network events notes (Some (amount time)) old put observer

-- all records of the instant are seen
pub record SeesInstant {O : Type 0} (see : Sees O) (network : Network) (events : List Event) (notes : List Note)
    (time : Units) (world : ExactWorld) (observer : O) (old : Start O) (put : Told) : Type 0 where
  pub more : List Note
  pub stands : StandsExact network world events (notes ++ more)
  pub sees : see network events (notes ++ more) None old put observer
  pub all : AreRecordsBefore network events ((amount time + 1) ∷ []) (notes ++ more)

-- the world has come to the next unit of time, of which nothing but events is worked off; or it is at the end
abbrev pub IsPast : ExactWorld → ExactWorld → Type 0
IsPast old new = ((new.now ≡ old.now + 1) × (new.early ≡ true)) ⊎ ((new.ended ≡ true) × (new.now ≡ old.now))

-- ---- an event

-- the event is the next behind those whose records are given
pub record ComesNext (network : Network) (world : ExactWorld) (events : List Event) (notes : List Note)
    (event : Event) : Type 0 where
  pub stands : StandsExact network world events notes
  pub so_far : AreRecordsSoFar network events notes
  pub may : MayGive network events event
  pub reached : IsReached world (last_time events)

-- it is, for an observer that has seen these
pub record MayMeet {O : Type 0} (see : Sees O) (network : Network) (world : ExactWorld) (line : ℕ) (event : Event)
    (observer : O) (put : Told) : Type 0 where
  pub events : List Event
  pub notes : List Note
  pub old : Start O
  pub next : ComesNext network world events notes event
  pub number : line ≡ length events + 1
  pub sees : see network events notes None old put observer

-- the event befell the world, and the records up to its own are seen
pub record SeesEvent {O : Type 0} (see : Sees O) (network : Network) (events : List Event) (notes : List Note)
    (event : Event) (world : ExactWorld) (observer : O) (old : Start O) (put : Told) : Type 0 where
  pub more : List Note
  pub stands : StandsExact network world (events ++ event ∷ []) (notes ++ more)
  pub so_far : AreRecordsSoFar network (events ++ event ∷ []) (notes ++ more)
  pub sees : see network (events ++ event ∷ []) (notes ++ more) None old put observer

-- the records are the run under the events up to a mark that is not behind the place of the next event's record
pub record IsOnTheWay (network : Network) (events : List Event) (event : Event) (notes : List Note) : Type 0 where
  pub mark : List ℕ
  pub sooner : (p : List ℕ) → IsBefore p mark → IsBefore p (place_of_event events event)
  pub run : AreRecordsBefore network events mark notes

-- the records are those up to the event's own, which befell; or they are on the way to it
abbrev pub HasBefallen : Network → List Event → Event → List Event → List Note → Type 0
HasBefallen network events event befallen notes =
    ((befallen ≡ events) × IsOnTheWay network events event notes)
    ⊎ ((befallen ≡ events ++ event ∷ []) × AreRecordsSoFar network befallen notes)

-- the observer failed on the way to the event, or at it
pub record CutsAtEvent {O : Type 0} (stop : Stops O) (network : Network) (events : List Event) (notes : List Note)
    (event : Event)
    (cut : Cut) (old : Start O) (put : Told) : Type 0 where
  pub befallen : List Event
  pub more : List Note
  pub whether : HasBefallen network events event befallen (notes ++ more)
  pub stops : stop network befallen (notes ++ more) cut old put
