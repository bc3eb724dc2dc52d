-- What becomes of a frame that is collected is determined.
use Rattle.{compression.specs.Clusters.Point, run_law.specs.declared.steps.Ripe.Ripe}
use Rattle.{compression.specs.declared.taken.Taken.Taken, run_law.proofs.runs.SameSteps.same_taken, std.proofs.Common.{◌↔◌, ◌∙◌, ◌≡◌, List, ap, sym}}
use Rattle.{net_plan.specs.declared.network.Network.Network, run_law.specs.control.{Collections.{IsCollectedAs, ripe_by_role}, Permanence.IsCollectionOutcome}}

pub collects_so : (network : Network) (points : List Point) (point : Point) (taken : Taken) (result : Ripe) → IsCollectedAs network points point taken
    → result ≡ ripe_by_role taken → (is : Ripe) → (is ≡ result) ↔ IsCollectionOutcome network points point is
collects_so network points point taken result as_taken found is = (
  λ same. record { taken = taken; collected = as_taken; becomes = same ∙ found },
  λ outcome. outcome.becomes ∙ ap ripe_by_role (same_taken network points point outcome.collected as_taken) ∙ sym found,
)
