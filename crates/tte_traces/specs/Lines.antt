-- A trace judged line by line.
use Rattle.std.specs.Prelude.{◌++◌, ◌+◌, ◌<◌, ◌^◌, ◌∷◌, ◌≡◌, ◌≢◌, ◌≤◌, Err, List, Ok, [], length, suc, zero, ℕ}
use Rattle.{net_plan.specs.declared.event.Event.Event, tte_io.specs.Line.{behind_line, first_line, lf, line_limit}}
use Rattle.{net_plan.specs.declared.network.Network.Network, tte_traces.specs.declared.fault.TraceFault.TraceFault}
use Rattle.run_law.specs.scenario.Hypothesis.{IsOutsideBy, IsWithinHypothesis}
use Rattle.{trace_text.specs.EventReading.event_read, world_drive.specs.exact.Records.HaveEnded}
use Rattle.tte_traces.specs.declared.fault.TraceFault.TheVariants as faults

-- what is left of the octets behind so many lines
abbrev pub behind_lines : ℕ → List ℕ → List ℕ
behind_lines zero octets = octets
behind_lines (suc n) octets = behind_line (behind_lines n octets)

-- so many first lines of the octets stand whole, each with its LF
abbrev pub StandWhole : ℕ → List ℕ → Type 0
StandWhole zero octets = Unit {0}
StandWhole (suc n) octets = (front : List ℕ) × (octets ≡ front ++ lf ∷ behind_lines (suc n) octets)

-- there is a further line, of a number below 2^32, and the events before it have no end
pub record IsOpen (before : List Event) (rest : List ℕ) : Type 0 where
  pub some : rest ≢ []
  pub number : length before + 1 < 2 ^ 32
  pub unended : HaveEnded before → ⊥

-- the next line, which is not too long, has this event
pub record HasEvent (network : Network) (before : List Event) (rest : List ℕ) (event : Event) : Type 0 where
  pub is_open : IsOpen before rest
  pub short : length (first_line rest) ≤ line_limit
  pub read : event_read network (first_line rest) ≡ Ok event

-- the next line is admitted with this event
pub record IsAdmitted (network : Network) (before : List Event) (rest : List ℕ) (event : Event) : Type 0 where
  pub has : HasEvent network before rest event
  pub within : IsWithinHypothesis network before event

-- the events are those of the first lines of the octets, each admitted given those before it
abbrev pub AreAdmitted : Network → List ℕ → List Event → Type 0
AreAdmitted network octets events =
    (before behind : List Event) (event : Event) → events ≡ before ++ event ∷ behind
    → IsAdmitted network before (behind_lines (length before) octets) event

-- the trace goes on behind the admitted events with this fault: the octets end without an end; there are too
-- many lines; a line stands behind the end; it is too long; it has no event; its event is outside the hypothesis
abbrev pub IsFault : Network → List Event → List ℕ → TraceFault → Type 0
IsFault network before rest faults.Missing = (rest ≡ []) × (HaveEnded before → ⊥)
IsFault network before rest faults.TooMany = (rest ≢ []) × (length before + 1 ≡ 2 ^ 32)
IsFault network before rest faults.After = (rest ≢ []) × (length before + 1 < 2 ^ 32) × HaveEnded before
IsFault network before rest faults.Long = IsOpen before rest × (line_limit < length (first_line rest))
IsFault network before rest (faults.Line refusal) =
    IsOpen before rest × (length (first_line rest) ≤ line_limit) × (event_read network (first_line rest) ≡ Err refusal)
IsFault network before rest (faults.Event outside) =
    (event : Event) × HasEvent network before rest event × IsOutsideBy network before event outside
