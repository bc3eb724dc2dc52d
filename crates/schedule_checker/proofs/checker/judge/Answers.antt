use Rattle.schedule_checker.proofs.ShapeRules.{tree_of}
use Rattle.schedule_checker.proofs.checker.judge.Goals as goal
use Rattle.std.proofs.Common.{arith}

pub beta-requires-clause-tree : goal.beta-requires-clause-tree
beta-requires-clause-tree c = tree_of c.rules_give_trees.ensures c.args.network.now c.in-Ok.ensures.kept

pub judge_plan-requires-clause-plan : goal.judge_plan-requires-clause-plan
judge_plan-requires-clause-plan c = search (arith, tree_of)
