use Rattle.{audit_law.specs.events.Beginnings.AreWaysOf, std.specs.Prelude.take}
use Rattle.audit_law.proofs.events.history.untouched_ways.Given as goal

abbrev pub invariant-loop-link : goal.invariant-loop-link
invariant-loop-link l = AreWaysOf (take l.link-index l.link-items) l.ways.items
