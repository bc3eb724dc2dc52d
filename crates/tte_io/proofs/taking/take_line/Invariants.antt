use Rattle.std.proofs.Common.{◌++◌, ◌-◌, ◌≡◌, ◌≤◌, false, length}
use Rattle.tte_io.{proofs.LineReading.Making, specs.Line.{ahead_limit, line_limit}}
use Rattle.tte_io.proofs.taking.take_line.Given as goal

abbrev pub invariant-reads : goal.invariant-reads
invariant-reads g l = record {
  making : Making (l.fn.line ++ l.fn.ahead) (g.S.Source.left l.fn.source) l.line l.ahead (g.S.Source.left l.source);
  bound : length l.ahead ≤ ahead_limit;
  unended : l.ended ≡ false;
  unchanged : g.S.Source.faults l.source ≡ g.S.Source.faults l.fn.source;
}

abbrev pub decreases-reads : goal.decreases-reads
decreases-reads g l = line_limit - length l.line
