use Rattle.lens_flows.specs.counts.PartLists.{AreFlowsBefore}
use Rattle.lens_flows.proofs.counts.flows.push_receivers.Given as goal

abbrev pub invariant-devices : goal.invariant-devices
invariant-devices l = AreFlowsBefore l.network l.vl.0 0 l.fn.flows.items → AreFlowsBefore l.network l.vl.0 l.place l.flows.items
