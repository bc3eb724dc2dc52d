use Rattle.{lens_plan.specs.places.Limits.AreWays, std.proofs.Common.take}
use Rattle.lens_plan.proofs.places.limits.ways_of.Given as goal

abbrev pub invariant-receivers : goal.invariant-receivers
invariant-receivers l = AreWays l.network l.message.sender (take l.receiver-index l.receiver-items) l.hops.items
