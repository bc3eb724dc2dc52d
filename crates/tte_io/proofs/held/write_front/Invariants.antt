use Rattle.std.proofs.Common.{◌-◌, ◌≤◌, length}
use Rattle.tte_io.proofs.held.write_front.Given as goal

abbrev pub invariant-pieces : goal.invariant-pieces
invariant-pieces g l = record {
  within : l.count ≤ length l.octets;
}

abbrev pub decreases-pieces : goal.decreases-pieces
decreases-pieces g l = length l.octets - l.count
