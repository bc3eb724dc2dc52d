use Rattle.world_drive.proofs.machines.device_machine.DeviceMachineMachine.state.Goals as goal

pub returns-in-EndSystem : goal.returns-in-EndSystem
returns-in-EndSystem c = rw c.in-EndSystem.is c.state.ensures

pub returns-in-Switch : goal.returns-in-Switch
returns-in-Switch c = rw c.in-Switch.is c.state-in-Switch.ensures
