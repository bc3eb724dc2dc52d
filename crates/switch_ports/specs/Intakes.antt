-- What a switch keeps of the time-triggered frames that it takes.
use Rattle.std.specs.Prelude.{◌++◌, ◌∷◌, ◌≡◌, List, []}
use Rattle.net_plan.specs.declared.{ids.DeviceId.DeviceId, network.Network.Network}
use Rattle.run_law.specs.{declared.steps.Arrival.Arrival, machines.Nodes.TakenFrame}
use Rattle.device_rules.specs.{Intakes.HasTaken, declared.intake.Intake.Intake}
use Rattle.run_law.specs.declared.steps.Arrival.TheVariants as arrivals

-- it had taken these, and this became of a further one, which is kept where it is taken; none is delivered
abbrev pub IsTakenSo : Network → DeviceId → List TakenFrame → Intake → Arrival → Type 0
IsTakenSo network device taken new (arrivals.Accepted vl cycle) =
    (taking : TakenFrame) → taking.vl ≡ vl → taking.cycle ≡ cycle → HasTaken network device new (taken ++ taking ∷ [])
IsTakenSo network device taken new (arrivals.Delivered vl cycle) = ⊥
IsTakenSo network device taken new other = HasTaken network device new taken
