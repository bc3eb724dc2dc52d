-- What a command over a trace answers, and what `run` does.
use Rattle.std.specs.Prelude.{◌++◌, ◌+◌, ◌≡◌, ◌⊎◌, List, [], length, ℕ}
use Rattle.{net_plan.specs.declared.event.Event.Event, tte_forms.specs.{Answering.Answer, Statuses.IsNetworkStatus}}
use Rattle.{net_plan.specs.declared.network.Network.Network, tte_traces.specs.FaultLine.{fault_lines, fault_status}}
use Rattle.{report_text.specs.NoteLine.report_of, run_law.specs.declared.note.Note.Note}
use Rattle.tte_forms.specs.declared.status.Status.{Status, TheVariants.{Done, OutsideHypothesis, TraceRefused}}
use Rattle.tte_traces.specs.{Lines.{AreAdmitted, IsFault, behind_lines}, declared.fault.TraceFault.TraceFault}
use Rattle.world_drive.specs.exact.Records.{AreAllRecords, AreRecordsSoFar, HaveEnded}

-- the lines that are put of a run under the events, by these records
abbrev pub LinesOf : Type 0
LinesOf = Network → List Event → List Note → List (List ℕ)

-- the whole trace was admitted, and the answer has the lines of the run
pub record AnswersAll (lines : LinesOf) (network : Network) (octets : List ℕ) (events : List Event)
    (a : Answer) : Type 0 where
  pub ended : HaveEnded events
  pub none_left : behind_lines (length events) octets ≡ []
  pub notes : List Note
  pub records : AreAllRecords network events notes
  pub answer : a ≡ record { status = Done; lines = lines network events notes }

-- the trace has a fault behind the admitted events, and the answer has the lines of the run so far and then the fault
pub record AnswersFault (lines : LinesOf) (network : Network) (octets : List ℕ) (events : List Event)
    (a : Answer) : Type 0 where
  pub fault : TraceFault
  pub is : IsFault network events (behind_lines (length events) octets) fault
  pub notes : List Note
  pub records : AreRecordsSoFar network events notes
  pub answer : a ≡ record {
    status = fault_status fault;
    lines = lines network events notes ++ fault_lines (length events + 1) fault;
  }

-- the answer of a command that puts these lines, for an accepted network under the octets of a trace
pub record IsTraceAnswer (lines : LinesOf) (octets : List ℕ) (network : Network) (a : Answer) : Type 0 where
  pub events : List Event
  pub admitted : AreAdmitted network octets events
  pub is : AnswersAll lines network octets events a ⊎ AnswersFault lines network octets events a

-- `run` puts the report
abbrev pub report_lines : LinesOf
report_lines network events notes = report_of network notes

-- the answer of `run` for an accepted network under the octets of a trace
abbrev pub IsRunAnswer : List ℕ → Network → Answer → Type 0
IsRunAnswer octets network a = IsTraceAnswer report_lines octets network a

-- the statuses of `run`
abbrev pub IsRunStatus : Status → Type 0
IsRunStatus TraceRefused = Unit {0}
IsRunStatus OutsideHypothesis = Unit {0}
IsRunStatus other = IsNetworkStatus other
