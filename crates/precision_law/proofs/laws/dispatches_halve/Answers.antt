use Rattle.precision_law.proofs.law.Whole.{halve}
use Rattle.precision_law.proofs.laws.dispatches_halve.Goals as goal

pub returns : goal.returns
returns c = halve
