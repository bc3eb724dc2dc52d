use Rattle.{lens_latency.specs.Seeing.AreTold, std.proofs.Common.take}
use Rattle.lens_latency.proofs.seeing.tell_all.Given as goal

-- what is told of those so far
abbrev pub invariant-comings : goal.invariant-comings
invariant-comings l = AreTold l.arrivals (take l.coming-index l.fn.comings) l.told.items
