use Rattle.precision_law.proofs.law.Whole.{clocks_agree}
use Rattle.precision_law.proofs.laws.clocks_stay_together.Goals as goal

pub returns : goal.returns
returns c = clocks_agree
