use Rattle.world_law.proofs.giving.Given.{given_step}
use Rattle.world_law.proofs.laws.given_step.Goals as goal

pub returns : goal.returns
returns g c = given_step g.C.Clock.reading g.M.Machine.stands
