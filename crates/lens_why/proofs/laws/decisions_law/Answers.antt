use Rattle.lens_why.proofs.Chains.{grounds_decide}
use Rattle.lens_why.proofs.laws.decisions_law.Goals as goal

pub returns : goal.returns
returns c = grounds_decide
