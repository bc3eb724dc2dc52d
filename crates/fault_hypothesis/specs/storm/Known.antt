-- What is known of the broken device.
use Rattle.std.specs.Prelude.{◌↔◌, ◌≡◌, List, Option, Some}
use Rattle.{fault_hypothesis.specs.storm.Striking.IsMaster, net_plan.specs.declared.network.Network.Network}
use Rattle.{net_plan.specs.declared.{event.Event.Event, ids.DeviceId.DeviceId}, run_law.specs.scenario.Faults.IsBroken}

-- it is the one that the events break, and each that they break is a master of the network
pub record KnowsBroken (network : Network) (before : List Event) (broken : Option DeviceId) : Type 0 where
  pub known : (device : DeviceId) → (broken ≡ Some device) ↔ IsBroken before device
  pub masters : (device : DeviceId) → IsBroken before device → IsMaster network device
