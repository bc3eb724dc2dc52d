use Rattle.{lens_plan.specs.places.Limits.AreHops, std.proofs.Common.take}
use Rattle.lens_plan.proofs.places.limits.hops_of.Given as goal

abbrev pub invariant-messages : goal.invariant-messages
invariant-messages l = AreHops l.network (take l.message-index l.messages) l.hops.items
