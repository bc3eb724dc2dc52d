use Rattle.compression.proofs.Middles.{length-some, middle_of-ends, middle_of-inner}
use Rattle.compression.proofs.middling.middle.Goals as goal
use Rattle.std.proofs.Common.{arith}

pub returns-then-last-lt2 : goal.returns-then-last-lt2
returns-then-last-lt2 c =
    search (arith, length-some, middle_of-ends)

pub returns-else-last-lt2 : goal.returns-else-last-lt2
returns-else-last-lt2 c =
    search (arith, length-some, middle_of-inner)
