-- The changes of state that records bring.
use Rattle.std.specs.Prelude.{List, ℕ}
use Rattle.audit_law.specs.law.{Changes.IsBrought, DueRecords.ChangesState}
use Rattle.net_plan.specs.declared.ids.DeviceId.{DeviceId}
use Rattle.run_law.specs.{declared.judgement.Why.Why, records.Happenings.Happening, scenario.Scenarios.Scenario}
use Rattle.sync_state.specs.declared.state.State.{State}

-- the record of this number changes a device's state at the time, judged by the list
pub record HasChange (s : Scenario) (hs : List Happening) (cause t : ℕ) : Type 0 where
  pub device : DeviceId
  pub state : State
  pub why : Why
  pub brought : IsBrought why
  pub changes : ChangesState s hs device t state cause why
