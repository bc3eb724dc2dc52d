-- The run that a world gives: where the events applied to it, and the records that it gave, leave it.
use Rattle.std.specs.Prelude.{◌+◌, ◌-◌, ◌<ℤ◌, ◌<◌, ◌^◌, ◌∷◌, ◌≡◌, ◌≤ℤ◌, ◌≤◌, ◌⊎◌, All, Bool, Err, List}
use Rattle.std.specs.Prelude.{None, Ok, Option, Result, Some, [], false, length, option_to_list, pos, slice_get, true}
use Rattle.std.specs.Prelude.{ℕ, ℤ}
use Rattle.{net_plan.specs.Belonging.IsOfNetwork, world_law.specs.source.Agreeing.scenario}
use Rattle.{net_plan.specs.declared.event.Event.Event, run_law.specs.runs.DueRecords.IsRunOf}
use Rattle.tte_units.specs.{Amount.units_of, declared.units.Units.Units}
use Rattle.net_plan.specs.declared.{event.What.{TheVariants.Hold, What}, ids.DeviceId.DeviceId, network.Network.Network}
use Rattle.run_law.specs.declared.note.{Note.Note, NoteBody.TheVariants.{Event as Befalls}}
use Rattle.run_law.specs.{law.FirstLaws.IsEventInRange, scenario.Hypothesis.{AreWithinHypothesis, IsWithinHypothesis}}
use Rattle.{world_law.specs.world.World.{Stands, World}, world_state.specs.{Keeping.{Meaning, keeps}, declared.kept.Kept.Kept}}
pub use Rattle.precision_law.specs.traffic.safety.Under.{clock_of, last_time, reading_of}

-- the events are the network's, their times are none below 0, and each is within the fault hypothesis; the records
-- given are those of the run under them up to the frontier, and each part of the world is as these events and records
-- leave it
pub record StandsUnder {C M : Type 0} (fresh : ℕ → C) (after_step : C → ℕ → ℤ → C) (reading : C → ℕ → ℕ)
    (stands : Meaning M) (network : Network) (world : World C (Kept M)) (events : List Event) (notes : List Note)
    : Type 0 where
  pub is : Stands reading (keeps stands) (scenario network (reading_of fresh after_step reading network events) events)
      world notes
  pub clocks : (device : DeviceId) → device.0 < length network.device
      → slice_get world.clocks device.0 ≡ Some (clock_of fresh after_step network events device)
  pub of_network : All (λ e. IsOfNetwork network e.what) events
  pub times : All IsEventInRange events
  pub within : AreWithinHypothesis network events

-- an event may befall now: the end has not come, and nothing of the present instant but events is worked off
pub record IsOpenTo {C M : Type 0} (world : World C (Kept M)) (event : Event) : Type 0 where
  pub time : event.time.0 ≡ pos world.now
  pub early : world.early ≡ true
  pub unended : world.ended ≡ false

-- a hold that it sets is a time from 0 on
abbrev pub HoldsATime : What → Type 0
HoldsATime (Hold link way hold) = pos 0 ≤ℤ hold.0
HoldsATime other = Unit {0}

-- the event of this line may befall the world: it is of the next line and of the present time, a hold that it sets is a
-- time, and after some events, which with some records leave the world where it stands, it is within the hypothesis
pub record MayBefall {C M : Type 0} (fresh : ℕ → C) (after_step : C → ℕ → ℤ → C) (reading : C → ℕ → ℕ)
    (stands : Meaning M) (world : World C (Kept M)) (line : ℕ) (event : Event) : Type 0 where
  pub next : line ≡ world.lines + 1
  pub now : IsOpenTo world event
  pub hold : HoldsATime event.what
  pub events : List Event
  pub notes : List Note
  pub is : StandsUnder fresh after_step reading stands world.network world events notes
  pub of_network : IsOfNetwork world.network event.what
  pub within : IsWithinHypothesis world.network events event

-- the record of an event, with its number and line
abbrev pub event_note : ℕ → ℕ → Event → Note
event_note number line event = record { number = number; time = event.time; body = Befalls line event.what }

-- behind the records of the events of a time, which have the rank 1
abbrev pub behind_events : ℕ → List ℕ
behind_events time = time ∷ 2 ∷ []

-- the record that was put here, if one was given
abbrev pub option_given : Bool → Note → Option Note
option_given true note = Some note
option_given false note = None

-- the next record, where one was put here
abbrev pub next_of : {E : Type 0} → Result Bool E → Note → Result (Option Note) E
next_of (Ok given) note = Ok (option_given given note)
next_of (Err e) note = Err e

-- the record that was given, if one was
abbrev pub given_by : {E : Type 0} → Result (Option Note) E → List Note
given_by (Ok next) = option_to_list next
given_by (Err e) = []

-- records may be asked for up to the time: it is at most 2^60 + 1, and after the end at most the one behind it
pub record MayAsk {C M : Type 0} (world : World C (Kept M)) (until : Units) : Type 0 where
  pub limit : until.0 ≤ℤ pos (2 ^ 60 + 1)
  pub ended : world.ended ≡ true → until.0 ≤ℤ pos (world.now + 1)

-- the world has come to the time, and nothing of it but events is worked off
pub record HasReached {C M : Type 0} (old new : World C (Kept M)) (until : Units) : Type 0 where
  pub time : pos new.now ≡ until.0
  pub early : (pos old.now <ℤ until.0) ⊎ (old.early ≡ true) → new.early ≡ true

-- unless the end has come, or the time is past, it has
abbrev pub Reaches : {C M : Type 0} → World C (Kept M) → World C (Kept M) → Units → Type 0
Reaches old new until = old.ended ≡ false → pos old.now ≤ℤ until.0 → until.0 ≤ℤ pos (2 ^ 60) → HasReached old new until

-- memory ran out on the way to the time. The world may have worked ahead, but is before the time still: it may be asked
-- again for what comes before it. No event, no record and no end is lost
pub record MayTryAgain {C M : Type 0} (old new : World C (Kept M)) (until : Units) : Type 0 where
  pub same : new.network ≡ old.network
  pub lines : new.lines ≡ old.lines
  pub given : new.given ≡ old.given
  pub ended : new.ended ≡ old.ended
  pub later : old.now ≤ new.now
  pub before : pos new.now <ℤ until.0

-- how far a world came that was asked for the next record before the time: to the time of the record, which is before
-- it; to the time, where none is due before it; and where memory ran out, not yet to it
abbrev pub ComesUpTo : {C M E : Type 0} → World C (Kept M) → World C (Kept M) → Units → Result (Option Note) E → Type 0
ComesUpTo old new until (Ok (Some note)) = (note.time ≡ units_of new.now) × (note.time.0 <ℤ until.0)
ComesUpTo old new until (Ok None) = Reaches old new until
ComesUpTo old new until (Err e) = MayTryAgain old new until

-- where a world stands, and nothing of the present instant but events is worked off, the records that it gave are the
-- run behind these events
abbrev pub RunsBehindEvents : {C M : Type 0} → (ℕ → C) → (C → ℕ → ℤ → C) → (C → ℕ → ℕ)
    → Meaning M → Type 0
RunsBehindEvents {C} {M} fresh after_step reading stands =
    (network : Network) (world : World C (Kept M)) (events : List Event) (notes : List Note)
    → StandsUnder fresh after_step reading stands network world events notes → world.early ≡ true
    → IsRunOf network (reading_of fresh after_step reading network events) events (behind_events world.now) notes

-- how many numbers are left for records
abbrev pub left_of : {C M : Type 0} → World C (Kept M) → ℕ
left_of world = 2 ^ 64 - world.given
