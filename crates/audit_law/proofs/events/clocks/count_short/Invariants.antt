use Rattle.audit_law.proofs.events_lemmas.Clocks.{IsHalved}
use Rattle.std.proofs.Common.{◌-◌}
use Rattle.audit_law.proofs.events.clocks.count_short.Given as goal

abbrev pub invariant-halves : goal.invariant-halves
invariant-halves l = IsHalved l.goal.0 l.changes l.low l.high

abbrev pub decreases-halves : goal.decreases-halves
decreases-halves l = l.high - l.low
