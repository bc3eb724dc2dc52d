-- Which flows have a line: those that name what the network has.
use Rattle.lens_flows.specs.declared.counts.told.FlowTold.{FlowTold}
use Rattle.net_plan.specs.{Belonging.{HasDevice, HasVl}, declared.network.Network.Network}

-- the flow has a line
pub record IsWritable (network : Network) (one : FlowTold) : Type 0 where
  pub vl : HasVl network one.flow.vl
  pub device : HasDevice network one.flow.device
