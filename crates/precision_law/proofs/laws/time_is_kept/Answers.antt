use Rattle.precision_law.proofs.law.Whole.{time_kept}
use Rattle.precision_law.proofs.laws.time_is_kept.Goals as goal

pub returns : goal.returns
returns c = time_kept
