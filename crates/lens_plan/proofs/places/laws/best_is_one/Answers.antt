use Rattle.lens_plan.proofs.Attempts.{behind_one}
use Rattle.lens_plan.proofs.places.laws.best_is_one.Goals as goal

pub returns : goal.returns
returns c = behind_one
