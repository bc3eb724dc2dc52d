use Rattle.world_law.proofs.laws.few_are_emitted.Goals as goal
use Rattle.world_law.proofs.growing.FewActs.{few_are_emitted}

pub returns : goal.returns
returns c = few_are_emitted
