use Rattle.drift_clock.proofs.Drifts.{slips_little}
use Rattle.drift_clock.proofs.laws.slip_law.Goals as goal

pub returns : goal.returns
returns c = slips_little
