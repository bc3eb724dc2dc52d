use Rattle.net_plan.proofs.Trees.{rules_give_trees}
use Rattle.net_plan.proofs.laws.rules_give_trees.Goals as goal

pub returns : goal.returns
returns c = rules_give_trees
