-- What the events of a storm as a trace have to do with `run` and `storm`.
use Rattle.std.specs.{List.concat, Prelude.{◌≡◌, ◌≤◌, List, ℕ}}
use Rattle.{fault_hypothesis.specs.storm.Events.IsStorm, world_drive.specs.exact.Records.AreAllRecords}
use Rattle.{lens.specs.events.Answer.IsEventsAnswer, tte_traces.specs.{Answer.IsRunAnswer, storms.Laws.FitsFrames}}
use Rattle.{net_plan.specs.{Ranges.IsInRange, declared.event.Event.Event}, tte_units.specs.declared.units.Units.Units}
use Rattle.{net_plan.specs.declared.network.Network.Network, tte_forms.specs.declared.status.Status.TheVariants.Done}
use Rattle.{report_text.specs.NoteLine.report_of, tte_forms.specs.Answering.Answer}
use Rattle.{run_law.specs.declared.note.Note.Note, schedule_tables.specs.Rules.KeepsRules}
use Rattle.tte_traces.specs.storms.{Answer.{IsStormAnswer, IsWidest}, summary.{Counting.counts_of, Lines.summary_lines}}

-- the report and the summary are of one run, that of the network under the events of the storm, up to its end: the
-- report has each record of it, and the summary has their counts and their spread
pub record AreOfOneRun (seed cycles : ℕ) (network : Network) (report summary : Answer) : Type 0 where
  pub events : List Event
  pub storm : IsStorm network seed cycles events
  pub notes : List Note
  pub records : AreAllRecords network events notes
  pub spread : Units
  pub widest : IsWidest network events notes spread
  pub reported : report ≡ record { status = Done; lines = report_of network notes }
  pub summed : summary ≡ record {
    status = Done;
    lines = summary_lines seed cycles (counts_of notes) spread network.precision;
  }

-- `run` over the lines that `events` puts reports the run that `storm` sums up
abbrev pub StormReport : Type 0
StormReport =
    (seed cycles : ℕ) (network : Network) (trace report summary : Answer)
    → cycles ≤ 100000 → IsInRange network → KeepsRules network
    → IsEventsAnswer seed cycles network trace → IsRunAnswer (concat trace.lines) network report
    → IsStormAnswer seed cycles network summary → AreOfOneRun seed cycles network report summary

-- for each accepted network, each seed and so many cycles there is an answer of `events`
abbrev pub EventsAnswersExist : Type 0
EventsAnswersExist =
    (seed cycles : ℕ) (network : Network) → cycles ≤ 100000 → IsInRange network → KeepsRules network
    → FitsFrames network → (a : Answer) × IsEventsAnswer seed cycles network a
