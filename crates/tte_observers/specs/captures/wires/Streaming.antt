-- How much of a trace `wire` has taken, and what was written by then.
use Rattle.std.specs.Prelude.{◌∷◌, List, Option, ℕ}
use Rattle.{net_plan.specs.declared.{ids.LinkId.LinkId, tables.Way.Way}, tte_forms.specs.Putting.{IsPassedOn, Shown}}
use Rattle.{net_plan.specs.declared.network.Network.Network, tte_forms.specs.networks.Accepting.ForAccepted}
use Rattle.tte_observers.specs.captures.{pcap.Writing.head_octets, wires.{Answer.IsNamed, Packets.settled_capture}}
use Rattle.tte_traces.specs.{Answer.LinesOf, Streaming.{ForTrace, StopsBehindLines, TakesLittle}}

-- the packets of the way, but for those that a further event may cut
abbrev pub settled_lines : LinkId → Way → LinesOf
settled_lines link way network events notes = settled_capture network link way events notes

-- the header, and then these
abbrev pub headed_lines : LinkId → Way → LinesOf
headed_lines link way network events notes = head_octets ∷ settled_lines link way network events notes

-- all that was put was passed on, and it stops behind the lines that were taken
abbrev pub StopsHeaded : Network → LinkId → Way → Option (List ℕ) → Option (List ℕ) → Shown → Shown → Type 0
StopsHeaded network link way second left old new =
    IsPassedOn new
    × ForTrace second left (λ octets rest. StopsBehindLines (headed_lines link way) network octets rest old new)

-- little was taken of the trace
abbrev pub TakesLittleHeaded : Network → LinkId → Way → Option (List ℕ) → Option (List ℕ) → Shown → Shown → Type 0
TakesLittleHeaded network link way second left old new =
    ForTrace second left (λ octets rest. TakesLittle (headed_lines link way) network octets rest old new)

-- the same of the link of a name
abbrev pub StopsAtLink : Network → List ℕ → Way → Option (List ℕ) → Option (List ℕ) → Shown → Shown → Type 0
StopsAtLink network name way second left old new =
    (link : LinkId) × IsNamed network name link × StopsHeaded network link way second left old new

abbrev pub TakesLittleAtLink : Network → List ℕ → Way → Option (List ℕ) → Option (List ℕ) → Shown → Shown → Type 0
TakesLittleAtLink network name way second left old new =
    (link : LinkId) × IsNamed network name link × TakesLittleHeaded network link way second left old new

-- a read of the trace of an accepted network failed
abbrev pub WireStops : List ℕ → Way → Option (List ℕ) → Option (List ℕ) → Option (List ℕ) → Shown → Shown → Type 0
WireStops name way first second left old new =
    ForAccepted first (λ network. StopsAtLink network name way second left old new)

-- little was taken of the trace of an accepted network
abbrev pub WireTakesLittle : List ℕ → Way → Option (List ℕ) → Option (List ℕ) → Option (List ℕ) → Shown → Shown → Type 0
WireTakesLittle name way first second left old new =
    ForAccepted first (λ network. TakesLittleAtLink network name way second left old new)
