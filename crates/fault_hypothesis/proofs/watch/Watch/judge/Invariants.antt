use Rattle.{fault_hypothesis.specs.{Own.behind_own, Watching.Watches}, net_plan.specs.declared.event.Event.Event, std.proofs.Common.{◌-◌, ◌≡◌, ◌≤◌, List}}
use Rattle.net_plan.specs.Belonging.{IsOfNetwork}
use Rattle.{net_plan.specs.declared.network.Network.Network, run_law.specs.{declared.outside.Outside.Outside, scenario.Hypothesis.{Violates, condition_number}}}
use Rattle.fault_hypothesis.proofs.watch.Watch.judge.Given as goal

-- the event breaks none of the conditions so far
abbrev pub invariant-conditions : goal.invariant-conditions
invariant-conditions l = record {
  behind : l.behind ≡ behind_own l.event.what;
  least : 2 ≤ l.place;
  most : l.behind ≤ 11;
  none : (network : Network) (admitted : List Event) → Watches network l.self admitted → IsOfNetwork network l.event.what
      → (earlier : Outside) → condition_number earlier ≤ l.place → Violates network admitted l.event earlier → ⊥;
}

abbrev pub decreases-conditions : goal.decreases-conditions
decreases-conditions l = l.behind - l.place
