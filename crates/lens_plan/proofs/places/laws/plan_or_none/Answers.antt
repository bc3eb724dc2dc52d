use Rattle.lens_plan.proofs.PlanOne.{plan_or_none}
use Rattle.lens_plan.proofs.places.laws.plan_or_none.Goals as goal

pub returns : goal.returns
returns c = plan_or_none
