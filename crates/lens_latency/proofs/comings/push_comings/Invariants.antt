use Rattle.lens_latency.{proofs.Latencies.ArePushed, specs.Comings.IsPartAt}
use Rattle.lens_latency.proofs.comings.push_comings.Given as goal

abbrev pub invariant-devices : goal.invariant-devices
invariant-devices l = ArePushed (IsPartAt l.network l.vl.0) l.place l.fn.comings.items l.comings.items
