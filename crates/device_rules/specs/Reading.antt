-- What a device hears of a frame's octets.
use Rattle.std.specs.Prelude.{◌≡◌, List, Ok, ℕ}
use Rattle.net_plan.specs.declared.{ids.{DeviceId.DeviceId, LinkId.LinkId}, network.Network.Network}
use Rattle.run_law.specs.{control.Wires.{control, signal_of, timed}, declared.steps.{Arrival.Arrival, Moment.Moment}}
use Rattle.run_law.specs.machines.{Answers.{after_arrival, arrival_at, called}, Calls.{MayArrive, MayCall, MayHear, StandsFor}}
use Rattle.run_law.specs.machines.Nodes.{Node, Phase, arriving}
use Rattle.tte_units.specs.declared.frames.pcf.Pcf.{Pcf}
use Rattle.device_rules.specs.{Headings.heading_of, declared.heading.Heading.Heading}

-- the octets spell the control frame
abbrev pub AreOfFrame : Pcf → List ℕ → Type 0
AreOfFrame frame octets = signal_of octets ≡ control (Ok frame)

-- the octets have the heading, and are no control frame
pub record AreHeaded (heading : Heading) (octets : List ℕ) : Type 0 where
  pub is : heading ≡ heading_of octets
  pub plain : signal_of octets ≡ timed octets

-- some such octets may come to the machine by the link
abbrev pub MayHearSome : {M : Type 0} → (M → Network → DeviceId → Node → Type 0) → M → Moment → LinkId
    → (List ℕ → Type 0) → Type 0
MayHearSome stands machine moment link Are =
    StandsFor stands machine (λ network device node. (octets : List ℕ) × Are octets
    × MayHear network device node moment link octets)

-- what becomes of all such octets
abbrev pub HearsAll : {M : Type 0} → (M → Network → DeviceId → Node → Type 0) → Moment → LinkId
    → (List ℕ → Type 0) → Arrival → M → M → Type 0
HearsAll stands moment link Are result old new =
    (octets : List ℕ) → Are octets → (network : Network) (device : DeviceId) (node : Node)
    → stands old network device node → MayCall network device node moment arriving
    → MayArrive network device link octets
    → (result ≡ arrival_at network device node moment link (signal_of octets))
    × stands new network device (called moment arriving (after_arrival node moment result))

-- as what the machine stands now, it stood before, but for the last call: it has to do what it had to do
abbrev pub StandsAsBefore : {M : Type 0} → (M → Network → DeviceId → Node → Type 0) → M → M → Type 0
StandsAsBefore stands old new =
    (network : Network) (device : DeviceId) (node : Node) → stands new network device node
    → (last : Moment) × (phase : Phase) × stands old network device (called last phase node)
