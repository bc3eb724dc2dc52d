-- What `wire` writes is the capture of a run that is safe.
use Rattle.std.specs.Prelude.{◌∷◌, ◌≡◌, List, Option, [], ℕ}
use Rattle.net_plan.specs.declared.{event.Event.Event, ids.LinkId.LinkId, network.Network.Network, tables.Way.Way}
use Rattle.tte_observers.specs.captures.{pcap.Writing.head_octets, wires.{Answer.IsNamed, Packets.capture_of}}
use Rattle.run_law.specs.declared.note.Note.{Note}
use Rattle.tte_forms.specs.{Putting.Shown, declared.status.Status.Status}
use Rattle.tte_traces.specs.Safely.{OfRunToFault, OfWholeRun, RunsSafely}

-- the lines are the header, and the packets of the way of the link of the name by these records
abbrev pub AreOfWay : List ℕ → Way → List (List ℕ) → Network → List Event → List Note → Type 0
AreOfWay name way lines network events notes =
    (link : LinkId) × IsNamed network name link × (lines ≡ head_octets ∷ capture_of network link way events notes)

-- they are those of a run that goes well
abbrev pub IsWholeCapture : List ℕ → Way → List ℕ → List ℕ → List (List ℕ) → Type 0
IsWholeCapture name way octets trace lines =
    OfWholeRun octets trace (λ network events notes run. AreOfWay name way lines network events notes)

-- they are those up to a fault of the trace
abbrev pub IsCaptureToFault : List ℕ → Way → List ℕ → List ℕ → List (List ℕ) → Type 0
IsCaptureToFault name way octets trace lines =
    OfRunToFault octets trace (λ network events fault notes run. AreOfWay name way lines network events notes)

-- there are none, of a network that is refused or has no link of the name
abbrev pub IsSilent : List (List ℕ) → Type 0
IsSilent lines = lines ≡ []

abbrev pub WiresSafely : List ℕ → Way → Option (List ℕ) → Option (List ℕ) → Status → Shown → Shown → Type 0
WiresSafely name way first second status old new =
    RunsSafely (IsWholeCapture name way) (IsCaptureToFault name way) IsSilent first second status old new
