-- How a run goes on by an event.
use Rattle.std.specs.Prelude.{◌++◌, ◌+◌, ◌<◌, ◌∷◌, ◌≡◌, ◌≤ℤ◌, ◌≤◌, ◌⊎◌, List, Some, [], length, pos, slice_get, ℕ}
use Rattle.net_plan.specs.declared.{event.Event.Event, ids.DeviceId.DeviceId, network.Network.Network}
use Rattle.run_law.specs.{declared.note.{Note.Note, NoteBody.NoteBody}, records.Order.{IsBefore, IsIn, behind}}
use Rattle.run_law.specs.{records.Happenings.{Happening, happenings, time_of}, runs.DueRecords.{EndsAt, IsScenarioRun}}
use Rattle.tte_units.specs.{Amount.amount, declared.units.Units.Units}
use Rattle.world_law.specs.source.Agreeing.{Agree, scenario}
use Rattle.run_law.specs.declared.note.NoteBody.TheVariants as notes

-- the record of an event
abbrev pub IsEventBody : NoteBody → Type 0
IsEventBody (notes.Event line what) = Unit {0}
IsEventBody other = ⊥

-- the record of the next event
abbrev pub note_of_event : List Note → List Event → Event → Note
note_of_event ns events event = record {
  number = length ns + 1;
  time = event.time;
  body = notes.Event (length events + 1) event.what;
}

-- where it stands
abbrev pub place_of_event : List Event → Event → List ℕ
place_of_event events event = amount event.time ∷ 1 ∷ (length events + 1) ∷ []

-- the event may befall: the scenarios agree before its time, no end has come, each earlier event has its record and is
-- no later, nothing of an earlier time is left, and each record is that of an event or of an earlier time
pub record MayBefall (network : Network) (reading later : DeviceId → ℕ → ℕ) (events : List Event) (event : Event)
    (mark : List ℕ) (ns : List Note) : Type 0 where
  pub begun : pos 0 ≤ℤ event.time.0
  pub agree : (t : ℕ) → t < amount event.time → Agree network reading later events (events ++ event ∷ []) t
  pub running : (time : Units) → EndsAt events time → ⊥
  pub in_order : (i : ℕ) (e : Event) → slice_get events i ≡ Some e → amount e.time ≤ amount event.time
  pub told : (i : ℕ) (e : Event) → slice_get events i ≡ Some e → IsBefore (amount e.time ∷ 1 ∷ (i + 1) ∷ []) mark
  pub none_left : (p : List ℕ) → IsBefore p (amount event.time ∷ []) → IsBefore p mark
  pub sooner : (h : Happening) → IsIn h (happenings network ns) → (time_of h < amount event.time)
      ⊎ IsEventBody h.note.body

-- then the run goes on by its record, under the events with this one
abbrev pub RunGoesOnByEvent : Type 0
RunGoesOnByEvent =
    (network : Network) (reading later : DeviceId → ℕ → ℕ) (events : List Event) (event : Event) (mark : List ℕ)
    (ns : List Note)
    → MayBefall network reading later events event mark ns → IsScenarioRun (scenario network reading events) mark ns
    → IsScenarioRun (scenario network later (events ++ event ∷ [])) (behind (place_of_event events event))
    (ns ++ note_of_event ns events event ∷ [])

-- the events go on with this one and others, none of them earlier; before its time the scenarios agree, no end has
-- come, and the mark is not behind the place of its record
pub record MayFollow (network : Network) (reading later : DeviceId → ℕ → ℕ) (events : List Event) (event : Event)
    (others : List Event) (mark : List ℕ) : Type 0 where
  pub agree : (t : ℕ) → t < amount event.time → Agree network reading later events (events ++ event ∷ others) t
  pub running : (time : Units) → EndsAt events time → ⊥
  pub in_order : (i : ℕ) (e : Event) → slice_get (event ∷ others) i ≡ Some e → amount event.time ≤ amount e.time
  pub sooner : (p : List ℕ) → IsBefore p mark → IsBefore p (place_of_event events event)

-- then the run up to the mark is the same under all the events
abbrev pub RunStaysUnderMore : Type 0
RunStaysUnderMore =
    (network : Network) (reading later : DeviceId → ℕ → ℕ) (events : List Event) (event : Event) (others : List Event)
    (mark : List ℕ) (ns : List Note)
    → MayFollow network reading later events event others mark → IsScenarioRun (scenario network reading events) mark ns
    → IsScenarioRun (scenario network later (events ++ event ∷ others)) mark ns
