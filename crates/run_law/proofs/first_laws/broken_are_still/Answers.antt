use Rattle.run_law.proofs.first_laws.broken_are_still.Goals as goal
use Rattle.run_law.proofs.law.FirstBroken.{broken_are_still}

pub returns : goal.returns
returns c = broken_are_still
