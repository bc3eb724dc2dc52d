-- What a command over a trace writes is of a run that is safe, and what `run` writes is its report.
use Rattle.std.specs.Prelude.{◌++◌, ◌+◌, ◌∷◌, ◌≡◌, ◌⊎◌, List, Option, [], length, ℕ}
use Rattle.drift_clock.specs.Segment.{fresh_segment, segment_reading, stepped_segment}
use Rattle.{drift_world.specs.Running.last_time, tte_forms.specs.Safely.PutsSafely}
use Rattle.{net_plan.specs.declared.event.Event.Event, tte_traces.specs.FaultLine.fault_lines}
use Rattle.{net_plan.specs.declared.network.Network.Network, run_law.specs.records.Happenings.happenings}
use Rattle.{report_text.specs.NoteLine.report_of, run_law.specs.declared.note.Note.Note, tte_units.specs.Amount.amount}
use Rattle.precision_law.specs.traffic.safety.{Headline.{GoesWell, IsRunBefore, IsWholeRun}, Under.scenario_of}
use Rattle.tte_forms.specs.{Answering.ForOctets, Putting.{PutsLines, PutsSo, Shown}, networks.NetworkLine.IsRefusalText}
use Rattle.tte_forms.specs.declared.status.Status.{Status, TheVariants.{Done, OutsideHypothesis, TooLong, TraceRefused}}
use Rattle.{tte_forms.specs.networks.Accepting.MeansAccepted, world_drive.specs.exact.Records.AreRecordsBefore}
use Rattle.tte_traces.specs.{Lines.{AreAdmitted, IsFault, behind_lines}, declared.fault.TraceFault.TraceFault}

-- ---- runs under the clocks of the program

-- the records are the whole run under the events, and it goes well
abbrev pub IsGoodRun : Network → List Event → List Note → Type 0
IsGoodRun network events notes = IsWholeRun fresh_segment stepped_segment segment_reading network events notes

-- they are the run up to the last event, and it goes well
abbrev pub IsGoodRunBefore : Network → List Event → List Note → Type 0
IsGoodRunBefore network events notes =
    IsRunBefore fresh_segment stepped_segment segment_reading network events (amount (last_time events)) notes

-- the run of the network under the events up to the time, this time and all, begins with these records, and goes well
-- up to there
pub record BeginsRunTo (network : Network) (events : List Event) (time : ℕ) (written : List Note) : Type 0 where
  pub whole : List Note
  pub coming : List Note
  pub parts : whole ≡ written ++ coming
  pub run : AreRecordsBefore network events ((time + 1) ∷ []) whole
  pub well : GoesWell (scenario_of fresh_segment stepped_segment segment_reading network events)
      (happenings network whole) time

-- this is told of the run of the accepted network under the events of the trace, up to their end; it goes well up to
-- there
pub record OfWholeRun (octets trace : List ℕ)
    (Tells : (network : Network) (events : List Event) (notes : List Note) → IsGoodRun network events notes → Type 0)
    : Type 0 where
  pub network : Network
  pub accepted : MeansAccepted octets network
  pub events : List Event
  pub admitted : AreAdmitted network trace events
  pub notes : List Note
  pub run : IsGoodRun network events notes
  pub tells : Tells network events notes run

-- the trace has a fault behind the first events; this is told of the run under these, up to before the time of the last
-- of them, then that of events of this time, and of the fault; the run up to this time, which begins so, goes well up
-- to there
pub record OfRunToFault (octets trace : List ℕ)
    (Tells : (network : Network) (events : List Event) (fault : TraceFault) (notes : List Note)
    → IsGoodRunBefore network events notes → Type 0) : Type 0 where
  pub network : Network
  pub accepted : MeansAccepted octets network
  pub events : List Event
  pub admitted : AreAdmitted network trace events
  pub fault : TraceFault
  pub there : IsFault network events (behind_lines (length events) trace) fault
  pub notes : List Note
  pub run : IsGoodRunBefore network events notes
  pub begins : BeginsRunTo network events (amount (last_time events)) notes
  pub tells : Tells network events fault notes run

-- ---- what a command over a trace puts

-- what each status promises, where the lines of a whole run and those of one up to a fault are given
abbrev pub PutsOfRun : (List (List ℕ) → Type 0) → (List (List ℕ) → Type 0) → Status → Shown → Shown → Type 0
PutsOfRun IsWhole IsToFault Done old new = PutsSo IsWhole PutsLines old new
PutsOfRun IsWhole IsToFault TraceRefused old new = PutsSo IsToFault PutsLines old new
PutsOfRun IsWhole IsToFault OutsideHypothesis old new = PutsSo IsToFault PutsLines old new
PutsOfRun IsWhole IsToFault TooLong old new = PutsSo IsToFault PutsLines old new ⊎ PutsLines [] old new
PutsOfRun IsWhole IsToFault other old new = Unit {0}

-- for the octets of a network file and of a trace, what was put under the status is of a run that goes well, to the end
-- of the trace or to its fault; or, where the call was cut short, the first lines of one, or of a refusal
abbrev pub RunsSafely : (List ℕ → List ℕ → List (List ℕ) → Type 0) → (List ℕ → List ℕ → List (List ℕ) → Type 0)
    → (List (List ℕ) → Type 0) → Option (List ℕ) → Option (List ℕ) → Status → Shown → Shown → Type 0
RunsSafely IsWhole IsToFault IsRefusal first second status old new =
    ForOctets first (λ octets. ForOctets second (λ trace.
    PutsSafely (PutsOfRun (IsWhole octets trace) (IsToFault octets trace))
    (λ lines. IsWhole octets trace lines ⊎ IsToFault octets trace lines ⊎ IsRefusal lines) status old new))

-- ---- what `run` puts

-- the lines are the report of a run that goes well
abbrev pub IsWholeReport : List ℕ → List ℕ → List (List ℕ) → Type 0
IsWholeReport octets trace lines = OfWholeRun octets trace (λ network events notes run. lines ≡ report_of network notes)

-- they are its report up to a fault of the trace, and then the fault
abbrev pub IsReportToFault : List ℕ → List ℕ → List (List ℕ) → Type 0
IsReportToFault octets trace lines =
    OfRunToFault octets trace (λ network events fault notes run.
    lines ≡ report_of network notes ++ fault_lines (length events + 1) fault)

abbrev pub WritesSafely : Option (List ℕ) → Option (List ℕ) → Status → Shown → Shown → Type 0
WritesSafely first second status old new =
    RunsSafely IsWholeReport IsReportToFault IsRefusalText first second status old new
