-- How the machine of a device stands for it.
use Rattle.{end_system.specs.Standing.StandsAsEnd, switch_ports.specs.Standing.StandsAs}
use Rattle.{net_plan.specs.declared.{ids.DeviceId.DeviceId, network.Network.Network}, run_law.specs.machines.Nodes.Node}
use Rattle.world_drive.specs.declared.machines.device_machine.DeviceMachine.TheVariants.{EndSystem, Switch}
use Rattle.world_drive.specs.declared.machines.device_machine.DeviceMachine.{DeviceMachine}

-- it stands as the device of the network: as an end system does, or as a switch
abbrev pub StandsAsDevice : DeviceMachine → Network → DeviceId → Node → Type 0
StandsAsDevice (EndSystem machine) network device node = StandsAsEnd machine network device node
StandsAsDevice (Switch machine) network device node = StandsAs machine network device node
