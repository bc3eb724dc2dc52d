-- What correction points owe, and the records that tell of them.
use Rattle.std.specs.Prelude.{◌≡◌, List, Some, ℕ}
use Rattle.audit_law.specs.law.{CorrectionNumbers.ComesToPoint, Debts.IsPaid, Owed.Pays}
use Rattle.net_plan.specs.{Belonging.HasDevice, declared.{ids.DeviceId.DeviceId, network.Network.Network}}
use Rattle.run_law.specs.records.{Causes.device_of, Happenings.{Happening, up_to}, Order.IsIn}
use Rattle.run_law.specs.scenario.Scenarios.{Scenario}
use Rattle.sync_state.specs.declared.answers.Verdict.{Verdict, TheVariants.Cleared}
use Rattle.audit_law.specs.law.Owed as debts

-- at the time the device has the correction point of the cycle, at which it does not only clear, judged by the records
-- up to then
pub record OwesAt (s : Scenario) (hs : List Happening) (device : DeviceId) (time cycle : ℕ) : Type 0 where
  pub verdict : Verdict
  pub comes : ComesToPoint s (up_to time hs) device time cycle verdict
  pub more : verdict ≡ Cleared → ⊥

-- a record tells what the device's correction point at the time came to; there is one point at a time
abbrev pub IsTold : Scenario → List Happening → DeviceId → ℕ → ℕ → Type 0
IsTold s hs device time cycle = IsPaid hs (Pays s) (debts.point device time)

-- each record that is of a device is of one of the network's
abbrev pub AreOfDevices : Network → List Happening → Type 0
AreOfDevices network hs =
    (h : Happening) (device : DeviceId) → IsIn h hs → device_of h.note.body ≡ Some device → HasDevice network device
