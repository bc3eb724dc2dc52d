use Rattle.audit_devices.proofs.stretches_lemmas.Stretches.{rising_law}
use Rattle.audit_devices.proofs.stretches.laws.points_rise.Goals as goal

pub returns : goal.returns
returns c = rising_law
