use Rattle.world_drive.proofs.machines.device_machine.DeviceMachineTellsKind.hear_heading.Goals as goal

pub returns-in-EndSystem : goal.returns-in-EndSystem
returns-in-EndSystem c = rw c.in-EndSystem.is c.hear_heading.ensures

pub returns-in-Switch : goal.returns-in-Switch
returns-in-Switch c = rw c.in-Switch.is c.hear_heading-in-Switch.ensures
