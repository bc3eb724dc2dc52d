-- The sorts of debts: of what records bring, and of what clocks come to.
use Rattle.std.specs.Prelude.{◌≡◌, ℕ}
use Rattle.{audit_law.specs.law.Owed.Debt, net_plan.specs.declared.ids.{DeviceId.DeviceId, LinkId.LinkId}}
use Rattle.audit_law.specs.law.Owed as debts

-- ---- of records

-- the record of this number brings the debt
abbrev pub IsRecordDebtOf : ℕ → Debt → Type 0
IsRecordDebtOf n (debts.arrival cause) = cause ≡ n
IsRecordDebtOf n (debts.permanence cause) = cause ≡ n
IsRecordDebtOf n (debts.change cause) = cause ≡ n
IsRecordDebtOf n (debts.departure cause link) = cause ≡ n
IsRecordDebtOf n (debts.loss cause) = cause ≡ n
IsRecordDebtOf n other = ⊥

-- some record does
abbrev pub IsRecordDebt : Debt → Type 0
IsRecordDebt o = (n : ℕ) × IsRecordDebtOf n o

-- the frame of the record of this number leaves
abbrev pub IsLeavingDebtOf : ℕ → Debt → Type 0
IsLeavingDebtOf n (debts.departure cause link) = cause ≡ n
IsLeavingDebtOf n other = ⊥

-- ---- of clocks

-- the compression master sends the frame of a cluster
abbrev pub IsEmissionDebtOf : DeviceId → Debt → Type 0
IsEmissionDebtOf device (debts.emission other sent) = other ≡ device
IsEmissionDebtOf device other = ⊥

abbrev pub IsEmissionDebt : Debt → Type 0
IsEmissionDebt o = (device : DeviceId) × IsEmissionDebtOf device o

-- the master sends a frame
abbrev pub IsSendingDebtOf : DeviceId → Debt → Type 0
IsSendingDebtOf device (debts.sending o) = o.device ≡ device
IsSendingDebtOf device other = ⊥

abbrev pub IsSendingDebt : Debt → Type 0
IsSendingDebt o = (device : DeviceId) × IsSendingDebtOf device o

-- the device has a correction point
abbrev pub IsPointDebtOf : DeviceId → Debt → Type 0
IsPointDebtOf device (debts.point other time) = other ≡ device
IsPointDebtOf device other = ⊥

abbrev pub IsPointDebt : Debt → Type 0
IsPointDebt o = (device : DeviceId) × IsPointDebtOf device o

-- a frame of a row is dispatched on the link
abbrev pub IsDispatchDebtOn : LinkId → Debt → Type 0
IsDispatchDebtOn link (debts.dispatch o) = o.link ≡ link
IsDispatchDebtOn link other = ⊥

abbrev pub IsDispatchDebt : Debt → Type 0
IsDispatchDebt o = (link : LinkId) × IsDispatchDebtOn link o

-- a clock is told at the end
abbrev pub IsClockDebt : Debt → Type 0
IsClockDebt (debts.clock device time) = Unit {0}
IsClockDebt other = ⊥
