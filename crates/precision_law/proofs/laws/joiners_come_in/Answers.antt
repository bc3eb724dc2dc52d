use Rattle.precision_law.proofs.law.Whole.{joiners}
use Rattle.precision_law.proofs.laws.joiners_come_in.Goals as goal

pub returns : goal.returns
returns c = joiners
