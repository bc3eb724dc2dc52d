-- The flows of a network, as far as they have come.
use Rattle.std.specs.Prelude.{◌≡◌, ◌⊎◌, ◌<◌, ℕ, List, Option, MatchOption}
use Rattle.lens_flows.specs.{counts.{FlowLists.IsFlowBefore, Ordered.AreAll}, declared.judge.flow.Flow.Flow}
use Rattle.lens_flows.specs.judge.Flows.{IsFlow}
use Rattle.net_plan.specs.declared.{ids.{DeviceId.DeviceId, VlId.VlId}, network.Network.Network}

-- a flow of an earlier virtual link, or of this one to an earlier device
abbrev pub ComesBefore : ℕ → ℕ → Flow → Type 0
ComesBefore vl device flow = (flow.vl.0 < vl) ⊎ ((flow.vl.0 ≡ vl) × (flow.device.0 < device))

-- it is one of the network
pub record IsFlowOf (network : Network) (vl device : ℕ) (flow : Flow) : Type 0 where
  pub is : IsFlow network flow
  pub before : ComesBefore vl device flow

-- these are all such flows
abbrev pub AreFlowsBefore : Network → ℕ → ℕ → List Flow → Type 0
AreFlowsBefore network vl device flows = AreAll (IsFlowOf network vl device) IsFlowBefore flows

-- the flow of the virtual link to the device
pub record IsTo (network : Network) (vl : VlId) (device : DeviceId) (flow : Flow) : Type 0 where
  pub is : IsFlow network flow
  pub of_vl : flow.vl ≡ vl
  pub to : flow.device ≡ device

-- this is it, or there is none
abbrev pub IsFlowTo : Network → VlId → DeviceId → Option Flow → Type 0
IsFlowTo network vl device r = MatchOption r ((flow : Flow) → IsTo network vl device flow → ⊥) (IsTo network vl device)
