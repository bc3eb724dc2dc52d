use Rattle.precision_law.proofs.law.Whole.{near}
use Rattle.precision_law.proofs.laws.dispatches_stay_near.Goals as goal

pub returns : goal.returns
returns c = near
