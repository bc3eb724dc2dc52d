-- How a trace that is taken line by line stands to the events that it gave.
use Rattle.std.specs.Prelude.{◌++◌, ◌+◌, ◌<◌, ◌^◌, ◌↔◌, ◌∷◌, ◌≡◌, ◌≢◌, ◌≤◌, Err, IfSome, List, None, Ok, Option, Result}
use Rattle.std.specs.Prelude.{Some, [], false, length, true, ℕ}
use Rattle.{fault_hypothesis.specs.Watching.Watches, trace_text.specs.Ranges.IsEventInRange}
use Rattle.net_plan.specs.Belonging.{IsOfNetwork}
use Rattle.{net_plan.specs.declared.event.Event.Event, world_drive.specs.exact.Records.HaveEnded}
use Rattle.{net_plan.specs.declared.network.Network.Network, tte_traces.specs.declared.fault.TraceStop.TraceStop}
use Rattle.{run_law.specs.scenario.Hypothesis.IsWithinHypothesis, tte_traces.specs.declared.fault.TraceFault.TraceFault}
use Rattle.tte_io.specs.{Line.{IsUnbroken, ahead_limit, first_line, line_limit}, ReaderState.{LineReaderState, pending}}
use Rattle.{tte_io.specs.declared.lines.LineTaken.LineTaken, tte_traces.specs.declared.lines.Trace.Trace}
use Rattle.tte_traces.specs.Lines.{AreAdmitted, IsAdmitted, IsFault, StandWhole, behind_lines}
use Rattle.tte_io.specs.declared.lines.LineTaken.TheVariants as found
use Rattle.tte_traces.specs.declared.fault.TraceStop.TheVariants as stops

-- the trace is over the network and gave these events, each from a line of its own
pub record Follows (network : Network) (events : List Event) (trace : Trace) : Type 0 where
  pub over : trace.accepted.now ≡ network
  pub watch : Watches network trace.watch events
  pub lines : trace.lines ≡ length events
  pub number : length events < 2 ^ 32
  pub ended : (trace.ended ≡ true) ↔ HaveEnded events

-- beside that, the events are those of the first lines of the octets, and the trace stands behind these lines,
-- where so many octets are left in its source; all of these lines have their LF, unless the source has ended
pub record Reads (network : Network) (octets : List ℕ) (events : List Event) (trace : Trace)
    (left : List ℕ) : Type 0 where
  pub follows : Follows network events trace
  pub admitted : AreAdmitted network octets events
  pub coming : behind_lines (length events) octets ≡ pending trace.reader ++ left
  pub none_left : trace.reader.ended ≡ true → left ≡ []
  pub whole : trace.reader.ended ≡ false → StandWhole (length events) octets

-- these octets came so far; and with any that may follow them, the events are those of the first lines of them all
abbrev pub ReadsAny : Network → List ℕ → List Event → Trace → Type 0
ReadsAny network came events trace =
    (left : List ℕ) → (trace.reader.ended ≡ true → left ≡ []) → Reads network (came ++ left) events trace left

-- the trace gives one more event
pub record GivesEvent (network : Network) (before : List Event) (event : Event) (trace : Trace) : Type 0 where
  pub unended : HaveEnded before → ⊥
  pub of_network : IsOfNetwork network event.what
  pub range : IsEventInRange event
  pub within : IsWithinHypothesis network before event
  pub follows : Follows network (before ++ event ∷ []) trace

-- what comes of a trace that gave these events, by the answer of a call
abbrev pub GoesOn : Network → List Event → Result (Option Event) TraceStop → Trace → Type 0
GoesOn network events (Ok (Some event)) trace = GivesEvent network events event trace
GoesOn network events (Ok None) trace = HaveEnded events × Follows network events trace
GoesOn network events (Err _) trace = Follows network events trace

-- the same where the octets of the trace are told; after a failed read, or where nothing could be passed on before one,
-- the events' lines stand whole, and no line does in the octets taken behind them
abbrev pub ReadsOn : Network → List ℕ → List Event → Result (Option Event) TraceStop → Trace → List ℕ → Type 0
ReadsOn network octets events (Ok (Some event)) trace left = Reads network octets (events ++ event ∷ []) trace left
ReadsOn network octets events (Ok None) trace left = (behind_lines (length events) octets ≡ []) × HaveEnded events
ReadsOn network octets events (Err stops.ReadFault) trace left =
    Reads network octets events trace left × IsUnbroken (pending trace.reader) × StandWhole (length events) octets
ReadsOn network octets events (Err stops.WriteFault) trace left =
    Reads network octets events trace left × IsUnbroken (pending trace.reader) × StandWhole (length events) octets
ReadsOn network octets events (Err (stops.Fault fault)) trace left =
    IsFault network events (behind_lines (length events) octets) fault

-- of the octets behind these lines and the next one at most so many were taken as are read ahead
abbrev pub TakesFew : List ℕ → ℕ → List ℕ → Type 0
TakesFew octets lines left = length (behind_lines (lines + 1) octets) ≤ length left + ahead_limit

-- what a reader of lines found at the front of these octets
abbrev pub IsFound : List ℕ → LineTaken → LineReaderState → Type 0
IsFound rest found.Whole reader =
    (rest ≢ []) × (length (first_line rest) ≤ line_limit) × (reader.text ≡ Some (first_line rest))
IsFound rest found.Long reader = line_limit < length (first_line rest)
IsFound rest found.End reader = rest ≡ []

-- how the events go on with what was found there
abbrev pub Judges : Network → List Event → List ℕ → Result (Option Event) TraceFault → Trace → Type 0
Judges network events rest (Ok (Some event)) trace =
    IsAdmitted network events rest event × Follows network (events ++ event ∷ []) trace
Judges network events rest (Ok None) trace = (rest ≡ []) × HaveEnded events × Follows network events trace
Judges network events rest (Err fault) trace = IsFault network events rest fault × Follows network events trace

-- the same, where a refusal is a stop
abbrev pub JudgesSo : Network → List Event → List ℕ → Result (Option Event) TraceStop → Trace → Type 0
JudgesSo network events rest (Ok event) trace = Judges network events rest (Ok event) trace
JudgesSo network events rest (Err (stops.Fault fault)) trace = Judges network events rest (Err fault) trace
JudgesSo network events rest (Err stops.ReadFault) trace = ⊥
JudgesSo network events rest (Err stops.WriteFault) trace = ⊥

-- the trace is refused
abbrev pub IsRefused : TraceStop → Type 0
IsRefused stop = (fault : TraceFault) × (stop ≡ stops.Fault fault)

-- more octets came; and with any that may follow them, the trace goes on so
pub record ReadsMore (network : Network) (came : List ℕ) (events : List Event)
    (result : Result (Option Event) TraceStop)
    (next : Trace) : Type 0 where
  pub more : List ℕ
  pub reads : (left : List ℕ) → (next.reader.ended ≡ true → left ≡ [])
      → AreAdmitted network ((came ++ more) ++ left) events
      × ReadsOn network ((came ++ more) ++ left) events result next left

-- a call for the next event takes it from the octets that are told, and takes few more; where they are not told, it
-- takes it from those that came
pub record TakesNext (trace : Trace) (left : Option (List ℕ)) (result : Result (Option Event) TraceStop) (next : Trace)
    (after : Option (List ℕ)) : Type 0 where
  pub reads : (network : Network) (octets : List ℕ) (events : List Event) (ahead : List ℕ) → left ≡ Some ahead
      → Reads network octets events trace ahead
      → (rest : List ℕ) × (after ≡ Some rest) × ReadsOn network octets events result next rest
  pub few : (network : Network) (octets : List ℕ) (events : List Event) (ahead : List ℕ) → left ≡ Some ahead
      → Reads network octets events trace ahead
      → IfSome after (TakesFew octets (length events))
  pub any : (network : Network) (came : List ℕ) (events : List Event) → ReadsAny network came events trace
      → ReadsMore network came events result next
