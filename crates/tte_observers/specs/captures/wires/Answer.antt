-- What `wire` answers for the octets of a network file and of a trace.
use Rattle.std.specs.Prelude.{◌≡◌, ◌⊎◌, List, [], length, ℕ}
use Rattle.net_plan.specs.{Bearers.{HasNoBearer, IsFirstBearer, link_names}, declared.network.Network.Network}
use Rattle.{net_plan.specs.declared.{event.Event.Event, ids.LinkId.LinkId}, tte_traces.specs.FaultLine.fault_status}
use Rattle.{net_plan.specs.declared.tables.Way.Way, run_law.specs.declared.note.Note.Note}
use Rattle.tte_forms.specs.{Answering.{Answer, with_line}, networks.{Accepting.IsAnswerBy, NoNetworks.answer_by}}
use Rattle.tte_forms.specs.declared.{accepting.NoNetwork.NoNetwork, status.Status.{Status, TheVariants.NameRefused}}
use Rattle.tte_observers.specs.captures.{pcap.Writing.head_octets, wires.Packets.capture_of}
use Rattle.tte_traces.specs.{Answer.{AnswersAll, IsRunStatus, LinesOf}, Lines.{AreAdmitted, IsFault, behind_lines}}
use Rattle.{tte_traces.specs.declared.fault.TraceFault.TraceFault, world_drive.specs.exact.Records.AreRecordsSoFar}

-- ---- the packets of a way

-- those of all records of the run
abbrev pub way_lines : LinkId → Way → LinesOf
way_lines link way network events notes = capture_of network link way events notes

-- the trace has a fault behind the admitted events, and the answer has the lines of the run so far, and none about the
-- fault
pub record BreaksOff (lines : LinesOf) (network : Network) (octets : List ℕ) (events : List Event)
    (a : Answer) : Type 0 where
  pub fault : TraceFault
  pub is : IsFault network events (behind_lines (length events) octets) fault
  pub notes : List Note
  pub records : AreRecordsSoFar network events notes
  pub answer : a ≡ record { status = fault_status fault; lines = lines network events notes }

-- the whole trace was admitted, or it breaks off at a fault
abbrev pub EndsEither : LinesOf → Network → List ℕ → List Event → Answer → Type 0
EndsEither lines network octets events a =
    AnswersAll lines network octets events a ⊎ BreaksOff lines network octets events a

-- the packets of the way of an accepted network under the octets of a trace
pub record IsCapture (link : LinkId) (way : Way) (octets : List ℕ) (network : Network) (a : Answer) : Type 0 where
  pub events : List Event
  pub admitted : AreAdmitted network octets events
  pub is : EndsEither (way_lines link way) network octets events a

-- ---- the answer

-- the link is the first of this name
abbrev pub IsNamed : Network → List ℕ → LinkId → Type 0
IsNamed network name link = IsFirstBearer (link_names network.link) name link.0

-- where no link has the name, nothing is written; else the header and then the packets of the way
abbrev pub name_answer : Answer
name_answer = record { status = NameRefused; lines = [] }

-- an answer behind the header
abbrev pub IsHeaded : (Answer → Type 0) → Answer → Type 0
IsHeaded IsAnswer a = (b : Answer) × IsAnswer b × (a ≡ with_line head_octets b)

abbrev pub IsWireAnswer : List ℕ → Way → List ℕ → Network → Answer → Type 0
IsWireAnswer name way octets network a =
    (HasNoBearer (link_names network.link) name × (a ≡ name_answer))
    ⊎ ((link : LinkId) × IsNamed network name link × IsHeaded (IsCapture link way octets network) a)

-- of a network that is refused nothing is written
abbrev pub silent_lines : List ℕ → List (List ℕ)
silent_lines reason = []

-- the answer for the octets of a network file, where that for an accepted network is given
abbrev pub IsWireNetworkAnswer : (Network → Answer → Type 0) → List ℕ → Answer → Type 0
IsWireNetworkAnswer IsAnswerFor octets a = IsAnswerBy silent_lines IsAnswerFor octets a

-- what is answered where there is no accepted network
abbrev pub quiet_answer : NoNetwork → Answer
quiet_answer cause = answer_by silent_lines cause

-- the statuses of `wire`
abbrev pub IsWireStatus : Status → Type 0
IsWireStatus NameRefused = Unit {0}
IsWireStatus other = IsRunStatus other
