-- What an end system does with a frame that arrives.
use Rattle.std.specs.Prelude.{◌≡◌, List, false, ℕ}
use Rattle.net_plan.specs.declared.{ids.{DeviceId.DeviceId, LinkId.LinkId}, network.Network.Network}
use Rattle.pcf_codec.specs.Decoding.{decoded}
use Rattle.run_law.specs.{control.Wires.{Signal, control, timed}, declared.steps.{Arrival.Arrival, Moment.Moment}}
use Rattle.run_law.specs.{device.States.is_off, machines.Answers.{after_arrival, arrival_at, called}}
use Rattle.run_law.specs.machines.{Calls.{MayArrive, MayCall, StandsFor}, Nodes.{Node, arriving}}
use Rattle.end_system.specs.{Standing.StandsAsEnd, declared.end_system.EndSystem.EndSystem}

-- a frame of these octets may come to it by the link
abbrev pub MayHearNow : EndSystem → Moment → LinkId → List ℕ → Type 0
MayHearNow e moment link octets =
    StandsFor StandsAsEnd e (λ network device node. MayCall network device node moment arriving
    × MayArrive network device link octets)

-- it takes part, and has judged what came
abbrev pub HearsSo : EndSystem → Moment → LinkId → List ℕ → Signal → Arrival → EndSystem → Type 0
HearsSo old moment link octets signal result new =
    (network : Network) (device : DeviceId) (node : Node) → StandsAsEnd old network device node
    → MayCall network device node moment arriving → MayArrive network device link octets
    → is_off node.standing.state ≡ false
    → (result ≡ arrival_at network device node moment link signal)
    × StandsAsEnd new network device (called moment arriving (after_arrival node moment result))

-- the same of octets that count as a control frame
abbrev pub HearsControl : EndSystem → Moment → LinkId → List ℕ → Arrival → EndSystem → Type 0
HearsControl old moment link octets result new = HearsSo old moment link octets (control (decoded octets)) result new

-- the same of octets that are no control frame
abbrev pub HearsTimed : EndSystem → Moment → LinkId → List ℕ → Arrival → EndSystem → Type 0
HearsTimed old moment link octets result new = HearsSo old moment link octets (timed octets) result new
