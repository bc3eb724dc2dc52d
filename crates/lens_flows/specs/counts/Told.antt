-- What is told of each flow.
use Rattle.std.specs.Prelude.{◌≡◌, List, ℕ, All, map}
use Rattle.lens_flows.specs.{counts.{Counted.AreFateCounts, Deliveries.AreDeliveries, Ordered.IsCountOf}, judge.Certain.IsCertainAt}
use Rattle.lens_flows.specs.declared.judge.flow.Flow.{Flow}
use Rattle.lens_flows.specs.declared.counts.{deliveries.Delivery.Delivery, told.FlowTold.FlowTold}
use Rattle.run_law.specs.{records.Happenings.Happening, scenario.Scenarios.Scenario}

-- so much is counted of the flow
pub record IsTold (s : Scenario) (hs : List Happening) (until : ℕ) (ds : List Delivery) (told : FlowTold) : Type 0 where
  pub fates : AreFateCounts s hs until told.flow told.fates
  pub certain : IsCountOf (IsCertainAt s hs until told.flow) told.certain
  pub deliveries : AreDeliveries s hs ds told.flow told.deliveries

-- this is told of each of the flows
pub record AreToldOf (s : Scenario) (hs : List Happening) (until : ℕ) (ds : List Delivery) (all : List Flow)
    (told : List FlowTold) : Type 0 where
  pub flows : map (λ one. one.flow) told ≡ all
  pub each : All (IsTold s hs until ds) told
