use Rattle.lens_plan.proofs.Attempts.{best_is_earliest}
use Rattle.lens_plan.proofs.places.laws.best_is_earliest.Goals as goal

pub returns : goal.returns
returns c = best_is_earliest
