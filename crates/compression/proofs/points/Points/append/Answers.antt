use Rattle.std.proofs.{Common.{arith}}
use Rattle.compression.proofs.Middles.{IsAscending-push}
use Rattle.compression.proofs.points.Points.append.Goals as goal

pub invariant_of-self : goal.invariant_of-self
invariant_of-self c =
    search (arith, IsAscending-push)
