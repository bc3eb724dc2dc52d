use Rattle.lens_plan.proofs.{GoodPlans.done_is_planned, InTime.served_come_in_time}
use Rattle.lens_plan.proofs.{Plans.{excess_is_true, impossible_is_true}, Sound.plan_is_accepted}
use Rattle.lens_plan.proofs.laws.plan_law.Goals as goal

pub returns-clause-planned : goal.returns-clause-planned
returns-clause-planned c = done_is_planned

pub returns-clause-time : goal.returns-clause-time
returns-clause-time c = served_come_in_time

pub returns-clause-impossible : goal.returns-clause-impossible
returns-clause-impossible c = impossible_is_true

pub returns-clause-excess : goal.returns-clause-excess
returns-clause-excess c = excess_is_true

pub returns-clause-accepted : goal.returns-clause-accepted
returns-clause-accepted c = plan_is_accepted
