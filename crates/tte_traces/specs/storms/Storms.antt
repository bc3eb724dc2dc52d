-- The events of a storm that were given, and what is told of their run at the end.
use Rattle.std.specs.Prelude.{◌*◌, ◌++◌, ◌+◌, ◌-◌, ◌<◌, ◌∷◌, ◌≡◌, ◌≤ℤ◌, ◌≤◌, ◌⊎◌, All, List, None, Option, Some, []}
use Rattle.std.specs.Prelude.{length, ℕ}
use Rattle.drift_clock.specs.Segment.{fresh_segment, segment_reading, stepped_segment}
use Rattle.{fault_hypothesis.specs.Watching.Watches, net_plan.specs.{Belonging.IsOfNetwork, declared.event.Event.Event}}
use Rattle.fault_hypothesis.specs.storm.Events.{AreStormEvents, IsStorm}
use Rattle.precision_law.specs.traffic.safety.Headline.{IsWholeRun}
use Rattle.{net_plan.specs.declared.network.Network.Network, world_drive.specs.exact.Records.{AreAllRecords, HaveEnded}}
use Rattle.{run_law.specs.declared.note.Note.Note, tte_traces.specs.storms.Answer.IsWidest}
use Rattle.{run_law.specs.law.FirstLaws.IsEventInRange, tte_units.specs.declared.units.Units.Units}
use Rattle.{tte_forms.specs.Answering.Gives, world_drive.specs.Sources.MayGive}
use Rattle.tte_forms.specs.{Putting.{PutsNone, Shown}, declared.status.Status.{Status, TheVariants.{Done, OutOfMemory}}}
use Rattle.tte_traces.specs.{declared.storms.counting.Seen.Seen, storms.summary.{Counting.counts_of, Lines.lines_of}}
use Rattle.tte_traces.specs.declared.storms.{events.StormEvents.StormEvents, summary.summary.Summary.Summary}

-- these events, the first of the storm, were given and admitted
pub record IsStormTo (network : Network) (seed cycles : ℕ) (events : List Event) (storm : StormEvents) : Type 0 where
  pub over : storm.accepted.now ≡ network
  pub least : 1 ≤ cycles
  pub most : cycles ≤ 100000
  pub watches : Watches network storm.watch events
  pub each : AreStormEvents network seed cycles events
  pub seed_is : storm.storm.seed ≡ seed
  pub cycles_is : storm.storm.cycles ≡ cycles
  pub given_is : storm.storm.given ≡ length events

-- how many events may still come
abbrev pub left_of : StormEvents → ℕ
left_of storm = 8 * storm.storm.cycles + 1 - storm.storm.given

-- the source gives the next event of the storm; or it gave them all
abbrev pub GivesStorm : Network → ℕ → ℕ → List Event → Option Event → StormEvents → StormEvents → Type 0
GivesStorm network seed cycles events (Some event) old new =
    MayGive network events event × (left_of new < left_of old)
    × IsStormTo network seed cycles (events ++ event ∷ []) new
GivesStorm network seed cycles events None old new =
    HaveEnded events × IsStormTo network seed cycles events new × (length events ≡ 8 * cycles + 1)

-- all events of the storm have befallen the network, and all records of the run are seen
pub record HasStormed (network : Network) (seed cycles : ℕ) (seen : Seen) : Type 0 where
  pub events : List Event
  pub storm : IsStorm network seed cycles events
  pub range : All IsEventInRange events
  pub of_network : All (λ e. IsOfNetwork network e.what) events
  pub notes : List Note
  pub records : AreAllRecords network events notes
  pub tallied : seen.tally ≡ counts_of notes
  pub widest : IsWidest network events notes (record { 0 = seen.spread })

-- the summary is that of the run of the network under the storm, up to its end; it goes well up to there, and local
-- clocks are seen at most the precision apart
pub record Summarises (network : Network) (seed cycles : ℕ) (summary : Summary) : Type 0 where
  pub events : List Event
  pub storm : IsStorm network seed cycles events
  pub notes : List Note
  pub records : AreAllRecords network events notes
  pub run : IsWholeRun fresh_segment stepped_segment segment_reading network events notes
  pub spread : Units
  pub widest : IsWidest network events notes spread
  pub within : spread.0 ≤ℤ network.precision.0
  pub is : summary ≡ record {
    seed = seed;
    cycles = cycles;
    counts = counts_of notes;
    spread = spread;
    precision = network.precision;
  }

-- the summary was given and passed on, or the first lines of it were put until writing failed; or memory ran out before
-- any was put
abbrev pub EndsStorm : Network → ℕ → ℕ → Status → Shown → Shown → Type 0
EndsStorm network seed cycles status old new =
    ((summary : Summary) × Summarises network seed cycles summary
    × Gives (record { status = Done; lines = lines_of summary }) status old new)
    ⊎ ((status ≡ OutOfMemory) × PutsNone old new)
