use Rattle.lens_why.proofs.BestThere.{best_are_there}
use Rattle.lens_why.proofs.laws.best_law.Goals as goal

pub returns : goal.returns
returns c = best_are_there
