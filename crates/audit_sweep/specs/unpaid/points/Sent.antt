-- What a master sends, and the records that say so.
use Rattle.std.specs.Prelude.{List, ℕ}
use Rattle.audit_law.specs.law.{Debts.IsPaid, Dispatched.Sending, Owed.Pays}
use Rattle.net_plan.specs.declared.ids.DeviceId.{DeviceId}
use Rattle.run_law.specs.{records.Happenings.Happening, scenario.Scenarios.Scenario}
use Rattle.audit_law.specs.law.Owed as debts

-- the device's frame of the cycle at the time
abbrev pub sending_of : DeviceId → ℕ → ℕ → Sending
sending_of device time cycle = record { device = device; cycle = cycle; time = time }

-- a record says that the device sends it
abbrev pub IsSent : Scenario → List Happening → DeviceId → ℕ → ℕ → Type 0
IsSent s hs device time cycle = IsPaid hs (Pays s) (debts.sending (sending_of device time cycle))
