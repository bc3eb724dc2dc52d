use Rattle.schedule_checker.proofs.ShapeRules.{connected, connected_on}
use Rattle.schedule_checker.proofs.shape.trees.is_connected.Goals as goal
use Rattle.std.proofs.Common.{arith}

pub returns-then-is_connected_on : goal.returns-then-is_connected_on
returns-then-is_connected_on c =
    search (arith, connected, connected_on)
