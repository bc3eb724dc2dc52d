use Rattle.world_drive.proofs.machines.device_machine.DeviceMachineMachine.act.Goals as goal

pub returns-in-EndSystem : goal.returns-in-EndSystem
returns-in-EndSystem c = rw c.in-EndSystem.is c.act.ensures
