use Rattle.lens_plan.proofs.PlanOne.{plan_one}
use Rattle.lens_plan.proofs.places.laws.plan_is_one.Goals as goal

pub returns : goal.returns
returns c = plan_one
