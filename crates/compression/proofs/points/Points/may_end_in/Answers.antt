use Rattle.std.{proofs.{Common.{arith}}}
use Rattle.compression.proofs.Middles.{slice_get-last}
use Rattle.compression.proofs.points.Points.may_end_in.Goals as goal

pub returns-in-Some : goal.returns-in-Some
returns-in-Some c =
    search (arith, slice_get-last)
