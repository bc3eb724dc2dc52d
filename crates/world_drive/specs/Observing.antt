-- What an observer of a run sees, and what was put by then. `see` says of an observer that it has seen the records of a
-- network under these events, and that from the start of the drive what was put led to this. Where it waits for the end
-- of the instant that is underway, the time of this instant is told.
use Rattle.std.specs.{Io.KnownBytes.Appends, Prelude.{Some, [], false, length, pos, true, ℕ}}
use Rattle.std.specs.Prelude.{◌++◌, ◌+◌, ◌^◌, ◌∷◌, ◌≡◌, ◌≤ℤ◌, Bool, IfErr, IfSome, List, None, OnOk, Option, Result}
use Rattle.drift_clock.specs.Segment.{fresh_segment, segment_reading, stepped_segment}
use Rattle.{drift_world.specs.{Locals.IsComplete, Running.event_note}, run_law.specs.declared.note.Note.Note}
use Rattle.{net_plan.specs.declared.event.Event.Event, tte_units.specs.declared.units.Units.Units}
use Rattle.{net_plan.specs.declared.network.Network.Network, world_drive.specs.exact.Records.AreRecordsSoFar}
use Rattle.{tte_io.specs.{Faults.Rose, declared.ends.Sink.Ghosts}, tte_units.specs.Amount.{amount, units_of}}
use Rattle.world_drive.specs.{Sources.MayGive, declared.observing.Cut.{Cut, TheVariants.{OutOfMemory, WriteFault}}}
use Rattle.world_drive.specs.{exact.Worlds.{ExactWorld, IsReached, StandsExact}, machines.Standing.StandsAsDevice}

-- ---- what was put

-- the octets that were put, where they are told, and the count of puts
pub record Told : Type 0 where
  pub written : Option (List ℕ)
  pub puts : ℕ

-- what a sink tells
abbrev pub told_by : {K : Type 0} → Ghosts K → K → Told
told_by sink out = record { written = sink.written out; puts = sink.puts out }

-- where a drive starts: what is told of the sink, and what the observer is
pub record Start (O : Type 0) : Type 0 where
  pub told : Told
  pub observer : O

abbrev pub start_by : {K O : Type 0} → Ghosts K → K → O → Start O
start_by sink out observer = record { told = told_by sink out; observer = observer }

-- what was written grew
abbrev pub Grows : Told → Told → Type 0
Grows old new = (octets : List ℕ) × Appends old.written new.written octets

-- the sink failed where that was the cause, and not where memory ran out
abbrev pub FailsBy : {K : Type 0} → Ghosts K → K → K → Cut → Type 0
FailsBy sink old new WriteFault = Rose (sink.faults old) (sink.faults new)
FailsBy sink old new OutOfMemory = sink.faults new ≡ sink.faults old

-- some was put, and the sink failed only where that was the cause
pub record PutsFurther {T K : Type 0} (sink : Ghosts K) (result : Result T Cut) (old new : K) : Type 0 where
  pub grew : Grows (told_by sink old) (told_by sink new)
  pub quiet : OnOk result (sink.faults new ≡ sink.faults old)
  pub cause : IfErr result (FailsBy sink old new)

-- ---- what was seen

abbrev pub Sees : Type 0 → Type 1
Sees O = Network → List Event → List Note → Option ℕ → Start O → Told → O → Type 0

abbrev pub Stops : Type 0 → Type 1
Stops O = Network → List Event → List Note → Cut → Start O → Told → Type 0

-- the time of the instant whose end is waited for, where the record of a time is seen and that may be asked for
abbrev pub instant_of : Option ℕ → Bool → Units → Option ℕ
instant_of (Some t) asks time = Some t
instant_of None true time = Some (amount time)
instant_of None false time = None

-- the world gave one more record, at its time; that is the instant whose end is waited for, if one is
pub record IsGiven (network : Network) (world : ExactWorld) (instant : Option ℕ) (events : List Event)
    (notes : List Note)
    (note : Note) : Type 0 where
  pub stands : StandsExact network world events (notes ++ note ∷ [])
  pub at : note.time ≡ units_of world.now
  pub here : IfSome instant (λ t. world.now ≡ t)

-- the world gave one more record than the observer has seen
pub record MaySee {O : Type 0} (see : Sees O) (network : Network) (world : ExactWorld) (note : Note) (observer : O)
    (put : Told) : Type 0 where
  pub events : List Event
  pub notes : List Note
  pub instant : Option ℕ
  pub old : Start O
  pub given : IsGiven network world instant events notes note
  pub sees : see network events notes instant old put observer

-- the event, which may befall the network next, befell the world, which stands at its time; the records are those of
-- the run up to its own
pub record Befell (network : Network) (world : ExactWorld) (events : List Event) (notes : List Note) (event : Event)
    (note : Note) : Type 0 where
  pub may : MayGive network events event
  pub stands : StandsExact network world (events ++ event ∷ []) (notes ++ note ∷ [])
  pub so_far : AreRecordsSoFar network (events ++ event ∷ []) (notes ++ note ∷ [])
  pub reached : IsReached world event.time
  pub is : note ≡ event_note (length notes + 1) (length events + 1) event

-- it has befallen it, and the observer has not seen that
pub record MaySeeEvent {O : Type 0} (see : Sees O) (network : Network) (world : ExactWorld) (event : Event)
    (note : Note)
    (observer : O) (put : Told) : Type 0 where
  pub events : List Event
  pub notes : List Note
  pub old : Start O
  pub befell : Befell network world events notes event note
  pub sees : see network events notes None old put observer

-- the world stands for these events and records, which are all up to the time, and shows the clocks of this time
abbrev pub IsCompleteExact : Network → ExactWorld → ℕ → List Event → List Note → Type 0
IsCompleteExact network world t events notes =
    IsComplete fresh_segment stepped_segment segment_reading StandsAsDevice network world t events notes

-- it does where the observer waited for the end of this instant
pub record MaySettle {O : Type 0} (see : Sees O) (network : Network) (world : ExactWorld) (time : Units) (observer : O)
    (put : Told) : Type 0 where
  pub begun : pos 0 ≤ℤ time.0
  pub limit : time.0 ≤ℤ pos (2 ^ 60)
  pub events : List Event
  pub notes : List Note
  pub old : Start O
  pub complete : IsCompleteExact network world (amount time) events notes
  pub sees : see network events notes (Some (amount time)) old put observer
