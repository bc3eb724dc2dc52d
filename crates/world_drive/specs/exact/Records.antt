-- The records of a run whose clocks are exact.
use Rattle.std.specs.Prelude.{◌+◌, ◌∷◌, ◌≡◌, Any, List, [], ℕ}
use Rattle.drift_clock.specs.Segment.{fresh_segment, segment_reading, stepped_segment}
use Rattle.{drift_world.specs.Running.{behind_events, last_time, reading_of}, net_plan.specs.declared.event.Event.Event}
use Rattle.net_plan.specs.declared.{event.What.TheVariants.End, ids.DeviceId.DeviceId, network.Network.Network}
use Rattle.{run_law.specs.declared.note.Note.Note, tte_units.specs.Amount.amount}
use Rattle.{run_law.specs.runs.DueRecords.{EndsAt, IsRunOf}, tte_units.specs.declared.units.Units.Units}

-- one of the events is the end
abbrev pub HaveEnded : List Event → Type 0
HaveEnded events = Any (λ e. e.what ≡ End) events

-- what the exact clock of a device reads at a time, under the rates that the events set
abbrev pub clock_reading : Network → List Event → DeviceId → ℕ → ℕ
clock_reading network events = reading_of fresh_segment stepped_segment segment_reading network events

-- the records of the run under the events, before the mark
abbrev pub AreRecordsBefore : Network → List Event → List ℕ → List Note → Type 0
AreRecordsBefore network events mark notes = IsRunOf network (clock_reading network events) events mark notes

-- the records that are earlier than the last event, and those of all events
abbrev pub AreRecordsSoFar : Network → List Event → List Note → Type 0
AreRecordsSoFar network events notes = AreRecordsBefore network events (behind_events (amount (last_time events))) notes

-- the records up to the time of the end
abbrev pub AreAllRecords : Network → List Event → List Note → Type 0
AreAllRecords network events notes =
    (time : Units) × EndsAt events time × AreRecordsBefore network events ((amount time + 1) ∷ []) notes
