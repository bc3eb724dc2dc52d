-- What `storm` writes is the summary of a run that is safe.
use Rattle.std.specs.Prelude.{◌≡◌, ◌≤ℤ◌, ◌⊎◌, List, Option, ℕ}
use Rattle.drift_clock.specs.Segment.{fresh_segment, segment_reading, stepped_segment}
use Rattle.{fault_hypothesis.specs.storm.Events.IsStorm, tte_units.specs.declared.units.Units.Units}
use Rattle.{net_plan.specs.declared.event.Event.Event, tte_traces.specs.storms.Answer.IsWidest}
use Rattle.{net_plan.specs.declared.network.Network.Network, tte_forms.specs.networks.Accepting.MeansAccepted}
use Rattle.{precision_law.specs.traffic.safety.Headline.IsWholeRun, tte_traces.specs.storms.summary.Lines.summary_lines}
use Rattle.{run_law.specs.declared.note.Note.Note, tte_forms.specs.{Answering.ForOctets, Safely.PutsSafely}}
use Rattle.{tte_forms.specs.Putting.{PutsLines, PutsSo, Shown}, tte_traces.specs.storms.summary.Counting.counts_of}
use Rattle.tte_forms.specs.{declared.status.Status.{Status, TheVariants.Done}, networks.NetworkLine.IsRefusalText}

-- the lines are the summary of the run of the accepted network under the storm's events, up to their end; it goes well
-- up to there, and local clocks are seen at most the precision apart
pub record IsSafeSummary (seed cycles : ℕ) (octets : List ℕ) (lines : List (List ℕ)) : Type 0 where
  pub network : Network
  pub accepted : MeansAccepted octets network
  pub events : List Event
  pub storm : IsStorm network seed cycles events
  pub notes : List Note
  pub run : IsWholeRun fresh_segment stepped_segment segment_reading network events notes
  pub spread : Units
  pub widest : IsWidest network events notes spread
  pub within : spread.0 ≤ℤ network.precision.0
  pub is : lines ≡ summary_lines seed cycles (counts_of notes) spread network.precision

-- the lines are such a summary, or the line of a network that is refused
abbrev pub IsSafeText : ℕ → ℕ → List ℕ → List (List ℕ) → Type 0
IsSafeText seed cycles octets lines = IsSafeSummary seed cycles octets lines ⊎ IsRefusalText lines

-- what is done puts the whole summary
abbrev pub PutsSummary : ℕ → ℕ → List ℕ → Status → Shown → Shown → Type 0
PutsSummary seed cycles octets Done old new = PutsSo (IsSafeSummary seed cycles octets) PutsLines old new
PutsSummary seed cycles octets other old new = Unit {0}

-- for the octets of a network file, what was put under the status is the summary of a run that goes well; or, where the
-- call was cut short, the first lines of one; under NetworkRefused and TooLong it is none
abbrev pub SummarisesSafely : ℕ → ℕ → Option (List ℕ) → Status → Shown → Shown → Type 0
SummarisesSafely seed cycles first status old new =
    ForOctets first (λ octets. PutsSafely (PutsSummary seed cycles octets) (IsSafeText seed cycles octets) status old
    new)
