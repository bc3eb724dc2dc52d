-- A machine may act when its clock comes to what is due, and is ready again then.
use Rattle.world_law.proofs.Words.{◌≡◌, ◌≤◌, Act, DeviceId, IsActOf, Moment, Network, Node, arith}
use Rattle.run_law.specs.machines.{Calls.order_of_phase, Nodes.{Phase, turning_on}}
use Rattle.run_law.specs.declared.steps.Act.TheVariants as acts

pub acting_last : (phase : Phase) → order_of_phase phase ≤ 3
acting_last turning_on = omega arith
acting_last phase = omega arith

-- ---- it is ready again

-- the last call after an act is at its moment
pub last_is : (network : Network) (device : DeviceId) (node : Node) (moment : Moment) (act : Act) (new : Node) → IsActOf network device node moment act new
    → new.last ≡ moment
last_is network device node moment (acts.Send frame) new is = grind arith
last_is network device node moment act new is = grind arith
