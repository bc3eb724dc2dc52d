use Rattle.lens_plan.proofs.PlanOne.{none_one}
use Rattle.lens_plan.proofs.places.laws.no_plan_is_one.Goals as goal

pub returns : goal.returns
returns c = none_one
