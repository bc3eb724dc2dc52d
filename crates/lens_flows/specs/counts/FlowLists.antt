-- The flows of a network, in their order.
use Rattle.std.specs.Prelude.{◌≡◌, ◌⊎◌, ◌<◌, List}
use Rattle.lens_flows.specs.{counts.Ordered.AreAll, declared.judge.flow.Flow.Flow, judge.Flows.IsFlow}
use Rattle.net_plan.specs.declared.network.Network.{Network}

-- the first flow stands before the second: by the virtual link, and then by the receiver
abbrev pub IsFlowBefore : Flow → Flow → Type 0
IsFlowBefore a b = (a.vl.0 < b.vl.0) ⊎ ((a.vl.0 ≡ b.vl.0) × (a.device.0 < b.device.0))

-- these are all flows of the network
abbrev pub AreFlows : Network → List Flow → Type 0
AreFlows network flows = AreAll (IsFlow network) IsFlowBefore flows
