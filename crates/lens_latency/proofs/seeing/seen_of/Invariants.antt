use Rattle.{lens_latency.specs.Seeing.{AreSeen, times_of}, std.proofs.Common.take}
use Rattle.lens_latency.proofs.seeing.seen_of.Given as goal

-- what the arrivals so far show
abbrev pub invariant-arrivals : goal.invariant-arrivals
invariant-arrivals l = AreSeen (times_of l.coming (take l.arrival-index l.fn.arrivals)) l.seen
