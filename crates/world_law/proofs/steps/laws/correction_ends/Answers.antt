use Rattle.world_law.proofs.steps_lemmas.acting.Ends.{correction_ends}
use Rattle.world_law.proofs.steps.laws.correction_ends.Goals as goal

pub returns : goal.returns
returns g c = correction_ends g.C.Clock.reading g.M.Machine.stands
