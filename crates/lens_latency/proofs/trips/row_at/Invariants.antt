use Rattle.lens_latency.{proofs.Latencies.NoneBelow, specs.Trips.IsHop}
use Rattle.lens_latency.proofs.trips.row_at.Given as goal

abbrev pub invariant-rows : goal.invariant-rows
invariant-rows l = NoneBelow l.network (IsHop l.network l.vl l.channel l.hop) l.number
