-- A trace as a source of events: what it gave, and what was taken of its octets by then.
use Rattle.std.specs.Prelude.{◌++◌, ◌∷◌, ◌≡◌, Err, IfSome, List, Option, Some, [], length, ℕ}
use Rattle.net_plan.specs.declared.{event.Event.Event, network.Network.Network}
use Rattle.tte_forms.specs.{Answering.ForOctets, Faults.{PutFailed, ReadFailed}, Putting.{IsPassedOn, shown_by}}
use Rattle.tte_traces.specs.Following.{Follows, Reads, ReadsAny, ReadsOn, TakesFew}
use Rattle.tte_traces.specs.{Lines.{AreAdmitted, IsFault, behind_lines}, declared.fault.TraceStop.TraceStop}
use Rattle.tte_traces.specs.declared.{fault.TraceStop.TheVariants.{Fault, ReadFault, WriteFault}, lines.Trace.Trace}
use Rattle.tte_io.specs.declared.ends.Sink as sinks
use Rattle.tte_io.specs.declared.ends.Source as sources

-- the octets that a trace had at first, where they are told, have the events in their first lines
abbrev pub ReadsFrom : Option (List ℕ) → Option (List ℕ) → Network → List Event → Trace → Type 0
ReadsFrom first left network events trace =
    (octets : List ℕ) → first ≡ Some octets
    → (rest : List ℕ) × (left ≡ Some rest) × Reads network octets events trace rest

-- of the octets behind so many lines and the next one little was taken
abbrev pub TakesFewFrom : Option (List ℕ) → Option (List ℕ) → ℕ → Type 0
TakesFewFrom first left lines = (octets : List ℕ) → first ≡ Some octets → IfSome left (TakesFew octets lines)

-- the trace goes on behind the events with the fault, where that is why it stopped
abbrev pub IsStopAt : Network → List Event → List ℕ → TraceStop → Type 0
IsStopAt network events rest (Fault fault) = IsFault network events rest fault
IsStopAt network events rest ReadFault = Unit {0}
IsStopAt network events rest WriteFault = Unit {0}

-- the trace gave these events, and behind the lines of all but the last little was taken
pub record GaveEvents {B : Type 0} (source : sources.Ghosts B) (network : Network) (first : B) (events : List Event)
    (now : B)
    (trace : Trace) : Type 0 where
  pub follows : Follows network events trace
  pub reads : ReadsFrom (source.left first) (source.left now) network events trace
  pub any : (came : List ℕ) × ReadsAny network came events trace
  pub few : (before : List Event) (event : Event) → events ≡ before ++ event ∷ []
      → TakesFewFrom (source.left first) (source.left now) (length before)
  pub calm : source.faults now ≡ source.faults first

-- it ended behind these events
pub record EndedBehind {B : Type 0} (source : sources.Ghosts B) (network : Network) (first : B) (events : List Event)
    (now : B) : Type 0 where
  pub all : (octets : List ℕ) → source.left first ≡ Some octets → (rest : List ℕ) × (source.left now ≡ Some rest)
      × AreAdmitted network octets events × (behind_lines (length events) octets ≡ [])
  pub some : ForOctets (source.left first)
      (λ octets. AreAdmitted network octets events × (behind_lines (length events) octets ≡ []))
  pub few : TakesFewFrom (source.left first) (source.left now) (length events)

-- it stopped behind them
pub record StoppedBehind {B K : Type 0} (source : sources.Ghosts B) (sink : sinks.Ghosts K) (network : Network)
    (first : B)
    (events : List Event) (stop : TraceStop) (now : B) (trace : Trace) (before after : K) : Type 0 where
  pub reads : (octets : List ℕ) → source.left first ≡ Some octets → (rest : List ℕ) × (source.left now ≡ Some rest)
      × AreAdmitted network octets events × ReadsOn network octets events (Err stop) trace rest
  pub some : ForOctets (source.left first) (λ octets. AreAdmitted network octets events
      × IsStopAt network events (behind_lines (length events) octets) stop)
  pub few : TakesFewFrom (source.left first) (source.left now) (length events)
  pub lines : trace.lines ≡ length events
  pub read : stop ≡ ReadFault → ReadFailed source first now × IsPassedOn (shown_by sink after)
  pub write : stop ≡ WriteFault → PutFailed sink before after
  pub quiet : (stop ≡ WriteFault → ⊥) → sink.faults after ≡ sink.faults before
