-- What `storm` answers for the octets of a network file.
use Rattle.std.specs.Prelude.{◌≡◌, List, ℕ}
use Rattle.drift_clock.specs.Segment.{fresh_segment, segment_reading, stepped_segment}
use Rattle.{fault_hypothesis.specs.storm.Events.IsStorm, run_law.specs.records.Happenings.happenings}
use Rattle.{net_plan.specs.declared.event.Event.Event, tte_units.specs.declared.units.Units.Units}
use Rattle.{net_plan.specs.declared.network.Network.Network, tte_forms.specs.declared.status.Status.TheVariants.Done}
use Rattle.{precision_law.specs.traffic.safety.Under.scenario_of, world_drive.specs.exact.Records.AreAllRecords}
use Rattle.{run_law.specs.{declared.note.Note.Note, scenario.Scenarios.Scenario}, tte_forms.specs.Answering.Answer}
use Rattle.tte_traces.specs.storms.summary.{Counting.counts_of, Lines.summary_lines, Spread.IsGreatestSpread}

-- the network under the events, with exact clocks
abbrev pub exact_scenario : Network → List Event → Scenario
exact_scenario network events = scenario_of fresh_segment stepped_segment segment_reading network events

-- the local clocks of the run of these records are seen so far apart at most
abbrev pub IsWidest : Network → List Event → List Note → Units → Type 0
IsWidest network events notes spread =
    IsGreatestSpread (exact_scenario network events) (happenings network notes) spread

-- the summary of the run of an accepted network under the storm of the seed over so many cycles
pub record IsStormAnswer (seed cycles : ℕ) (network : Network) (a : Answer) : Type 0 where
  pub events : List Event
  pub storm : IsStorm network seed cycles events
  pub notes : List Note
  pub records : AreAllRecords network events notes
  pub spread : Units
  pub widest : IsWidest network events notes spread
  pub answer : a ≡ record {
    status = Done;
    lines = summary_lines seed cycles (counts_of notes) spread network.precision;
  }
