-- What a call of a machine is told, what it ensures, and how its world keeps it.
use Rattle.std.specs.Prelude.{◌≡◌, List, Some, slice_get, ℕ}
use Rattle.net_plan.specs.declared.{ids.{DeviceId.DeviceId, LinkId.LinkId}, network.Network.Network}
use Rattle.run_law.specs.{control.Wires.signal_of, declared.steps.Act.Act, scenario.Scenarios.Scenario}
use Rattle.run_law.specs.{declared.steps.{Arrival.Arrival, Moment.Moment}, machines.Calls.{HasDue, MayArrive, MayCall}}
use Rattle.run_law.specs.machines.{Answers.{IsActOf, after_arrival, arrival_at, called}, Nodes.{Node, acting, arriving}}
use Rattle.sync_state.specs.declared.state.State.{State}
use Rattle.tte_units.specs.{Amount.units_of, declared.units.Units.Units}

-- a device's moment at the time
abbrev pub moment_of : Scenario → DeviceId → ℕ → Moment
moment_of s device t = record { time = units_of t; reading = units_of (s.reading device t) }

-- the list with this at a place
pub record IsSet {X : Type 0} (place : ℕ) (x : X) (old new : List X) : Type 0 where
  pub there : slice_get new place ≡ Some x
  pub same : (i : ℕ) → (i ≡ place → ⊥) → slice_get new i ≡ slice_get old i

-- what `state` and `adjustment` ensure
abbrev pub IsStateOf : {M : Type 0} → (M → Network → DeviceId → Node → Type 0) → Network → DeviceId → M → State → Units
    → Type 0
IsStateOf stands network device machine state adjustment =
    (node : Node) → stands machine network device node → (state ≡ node.standing.state)
    × (adjustment ≡ node.standing.adjustment)

-- what `due` ensured, its reading reached: something is due
abbrev pub IsDueNow : {M : Type 0} → (M → Network → DeviceId → Node → Type 0) → Network → DeviceId → Moment → M → Type 0
IsDueNow stands network device moment machine =
    (node : Node) → stands machine network device node → HasDue network device node moment.reading.0

-- what `act` ensures
abbrev pub HasActed : {M : Type 0} → (M → Network → DeviceId → Node → Type 0) → Network → DeviceId → Moment → Act → M
    → M → Type 0
HasActed stands network device moment result old new =
    (node : Node) → stands old network device node → MayCall network device node moment acting
    → HasDue network device node moment.reading.0
    → (after : Node) × IsActOf network device node moment result after × stands new network device after

-- what `hear` ensures
abbrev pub HasHeard : {M : Type 0} → (M → Network → DeviceId → Node → Type 0) → Network → DeviceId → Moment → LinkId
    → List ℕ → Arrival → M → M → Type 0
HasHeard stands network device moment link octets result old new =
    (node : Node) → stands old network device node → MayCall network device node moment arriving
    → MayArrive network device link octets
    → (result ≡ arrival_at network device node moment link (signal_of octets))
    × stands new network device (called moment arriving (after_arrival node moment result))
