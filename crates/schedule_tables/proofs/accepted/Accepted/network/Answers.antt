use Rattle.schedule_tables.proofs.Margins.{shape_rules}
use Rattle.schedule_tables.proofs.accepted.Accepted.network.Goals as goal

pub returns-clause-tree : goal.returns-clause-tree
returns-clause-tree c =
    let n = c.self.inside.network in
    rw c.self.view_is at (c.rules_give_trees.ensures n (shape_rules n c.self.invariant.1))
