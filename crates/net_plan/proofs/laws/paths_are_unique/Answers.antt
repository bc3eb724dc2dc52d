use Rattle.net_plan.proofs.Trees.{paths_are_unique}
use Rattle.net_plan.proofs.laws.paths_are_unique.Goals as goal

pub returns : goal.returns
returns c = paths_are_unique
