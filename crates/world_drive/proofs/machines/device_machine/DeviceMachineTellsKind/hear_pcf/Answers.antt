use Rattle.world_drive.proofs.machines.device_machine.DeviceMachineTellsKind.hear_pcf.Goals as goal

pub returns-in-EndSystem-clause-hears : goal.returns-in-EndSystem-clause-hears
returns-in-EndSystem-clause-hears c = rw c.in-EndSystem.is c.hear_pcf.ensures.hears

pub returns-in-EndSystem-clause-as_before : goal.returns-in-EndSystem-clause-as_before
returns-in-EndSystem-clause-as_before c = rw c.in-EndSystem.is c.hear_pcf.ensures.as_before

pub returns-in-Switch-clause-hears : goal.returns-in-Switch-clause-hears
returns-in-Switch-clause-hears c = rw c.in-Switch.is c.hear_pcf-in-Switch.ensures.hears

pub returns-in-Switch-clause-as_before : goal.returns-in-Switch-clause-as_before
returns-in-Switch-clause-as_before c = rw c.in-Switch.is c.hear_pcf-in-Switch.ensures.as_before
