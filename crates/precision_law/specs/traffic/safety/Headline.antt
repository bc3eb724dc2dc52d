-- What is promised of the records that are written of a run.
use Rattle.std.specs.Prelude.{◌*◌, ◌++◌, ◌+◌, ◌<◌, ◌^◌, ◌∷◌, ◌≡◌, ◌≤◌, List, [], true, ℕ, ℤ}
use Rattle.{net_plan.specs.Places.IsSwitchOf, run_law.specs.{law.Safety.IsSafe, records.Order.IsIn}}
use Rattle.net_plan.specs.declared.{event.{Event.Event, What.What}, ids.DeviceId.DeviceId, network.Network.Network}
use Rattle.tte_units.specs.declared.frames.channel.Channel.{Channel}
use Rattle.precision_law.specs.traffic.safety.Under.{reading_of, scenario_of}
use Rattle.precision_law.specs.{Blocks.IsClique, Progress.ComesIn, Views.IsSound}
use Rattle.tte_units.specs.Amount.{amount, units_of}
use Rattle.run_law.specs.{declared.{judgement.Why.Why, note.Note.Note}, scenario.{Devices.is_end, Scenarios.Scenario}}
use Rattle.run_law.specs.{records.Happenings.{Happening, happenings, time_of}, runs.DueRecords.{EndsAt, IsRunOf}}
use Rattle.{sync_state.specs.declared.state.State.State, tte_units.specs.declared.units.Units.Units}
use Rattle.run_law.specs.declared.note.NoteBody.TheVariants as notes

-- up to the time no end system, and no switch of a channel that is not the faulty one then, loses the common time
abbrev pub TimeStays : Scenario → List Happening → ℕ → Type 0
TimeStays s hs until =
    (h : Happening) (device : DeviceId) (state : State) (cause : ℕ) (why : Why)
    → IsIn h hs → time_of h ≤ until → h.note.body ≡ notes.State device state cause why → IsClique why
    → (is_end s.network device ≡ true → ⊥)
    × ((channel : Channel) → IsSwitchOf s.network channel device → IsSound s (time_of h) channel → ⊥)

-- the run goes well up to the time: it is safe, the common time is not lost, and an end system that is on comes in
-- within three cycles
pub record GoesWell (s : Scenario) (hs : List Happening) (until : ℕ) : Type 0 where
  pub safe : IsSafe s hs until
  pub time : TimeStays s hs until
  pub comes : ComesIn (3 * amount s.network.cycle) s hs until

-- the records are the run of the network under the events up to the time of their end, and it goes well up to there
pub record IsWholeRun {C : Type 0} (fresh : ℕ → C) (after_step : C → ℕ → ℤ → C) (reading : C → ℕ → ℕ)
    (network : Network) (events : List Event) (written : List Note) : Type 0 where
  pub end : Units
  pub ends : EndsAt events end
  pub run : IsRunOf network (reading_of fresh after_step reading network events) events ((amount end + 1) ∷ []) written
  pub well : GoesWell (scenario_of fresh after_step reading network events) (happenings network written) (amount end)

-- the records are the run of the network under the events up to before the time; where that is in the first 2^20
-- cycles, it goes well up to there
pub record IsSafeFront {C : Type 0} (fresh : ℕ → C) (after_step : C → ℕ → ℤ → C) (reading : C → ℕ → ℕ)
    (network : Network) (events : List Event) (time : ℕ) (written : List Note) : Type 0 where
  pub run : IsRunOf network (reading_of fresh after_step reading network events) events (time ∷ []) written
  pub well : time ≤ 2 ^ 20 * amount network.cycle + 1 → (until : ℕ) → until < time
      → GoesWell (scenario_of fresh after_step reading network events) (happenings network written) until

-- the record is that of an event of the time
pub record IsEventOf (time : ℕ) (note : Note) : Type 0 where
  pub line : ℕ
  pub what : What
  pub is : note.body ≡ notes.Event line what
  pub at : note.time ≡ units_of time

-- the records are the run of the network under the events up to before the time, which goes well up to there, and
-- then those of events of this time
pub record IsRunBefore {C : Type 0} (fresh : ℕ → C) (after_step : C → ℕ → ℤ → C) (reading : C → ℕ → ℕ)
    (network : Network) (events : List Event) (time : ℕ) (written : List Note) : Type 0 where
  pub front : List Note
  pub rest : List Note
  pub parts : written ≡ front ++ rest
  pub run : IsRunOf network (reading_of fresh after_step reading network events) events (time ∷ []) front
  pub well : (until : ℕ) → until < time
      → GoesWell (scenario_of fresh after_step reading network events) (happenings network front) until
  pub only_events : (note : Note) → IsIn note rest → IsEventOf time note
