-- A device that is broken.
use Rattle.std.specs.Prelude.{◌≡◌, true}
use Rattle.{end_system.specs.declared.broken.Broken.Broken, net_plan.specs.declared.network.Network.Network}
use Rattle.{net_plan.specs.declared.ids.DeviceId.DeviceId, run_law.specs.machines.Nodes.Node}

-- the machine stands as a device that broke in its state and with its adjustment
pub record StandsBroken (b : Broken) (network : Network) (device : DeviceId) (node : Node) : Type 0 where
  pub broken : node.broken ≡ true
  pub state : node.standing.state ≡ b.state
  pub adjustment : node.standing.adjustment ≡ b.adjustment
