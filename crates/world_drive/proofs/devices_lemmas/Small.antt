-- The machines of devices have small adjustments.
use Rattle.drift_world.specs.Locals.{AreSmall}
use Rattle.world_drive.specs.{machines.Standing.StandsAsDevice, declared.machines.device_machine.DeviceMachine.TheVariants.{EndSystem, Switch}}

pub are_small : AreSmall StandsAsDevice
are_small (EndSystem machine) network device node is = is.small
are_small (Switch machine) network device node is = is.small
