use Rattle.lens_flows.specs.counts.PartLists.{AreFlowsBefore}
use Rattle.lens_flows.proofs.counts.flows.flows_of.Given as goal

abbrev pub invariant-vls : goal.invariant-vls
invariant-vls l = AreFlowsBefore l.network l.place 0 l.flows.items
