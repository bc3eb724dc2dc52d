use Rattle.std.{proofs.Common.{◌-◌, ◌≡◌, ◌≤◌, length}, specs.Io.KnownBytes.Consumes}
use Rattle.tte_io.proofs.whole.read_all.Given as goal

abbrev pub invariant-pieces : goal.invariant-pieces
invariant-pieces g l = record {
  within : length l.octets.items ≤ l.limit;
  taken : Consumes (g.S.Source.left l.fn.source) (g.S.Source.left l.source) l.octets.items;
  unchanged : g.S.Source.faults l.source ≡ g.S.Source.faults l.fn.source;
}

abbrev pub decreases-pieces : goal.decreases-pieces
decreases-pieces g l = l.limit - length l.octets.items
