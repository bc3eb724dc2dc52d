-- What a device dispatches as the sender of a virtual link.
use Rattle.std.specs.Prelude.{◌≡◌, List, Some, pos, ℕ}
use Rattle.audit_devices.specs.{clocks.Finding.{CrossesAt, value_in}, declared.clocks.finding.Series.Series}
use Rattle.audit_devices.specs.Showing.{Shown}
use Rattle.net_plan.specs.declared.{ids.{DeviceId.DeviceId, LinkId.LinkId, VlId.VlId}, network.Network.Network}
use Rattle.run_law.specs.{device.LocalClocks.Reaches, records.{Happenings.{Happening, numbered}, Order.IsIn}}
use Rattle.run_law.specs.{scenario.Scenarios.Scenario, timed.Dispatching.Dispatches}
use Rattle.audit_sweep.specs.records.dispatches.Leavings.{IsRowFit, Occurs, leaving_value}
use Rattle.audit_sweep.specs.{declared.records.dispatches.leaving.LeavingRow.LeavingRow}

-- a clock of these readings crosses a value of the series at the time, where this is shown of it
abbrev pub CrossesSome : (ℕ → ℕ) → Shown → Series → ℕ → Type 0
CrossesSome reading shown series t = (n : ℕ) × CrossesAt reading shown (value_in series n) t

-- the device's clock reaches the row's place in a cycle in which its virtual link occurs
pub record ReachesSome (s : Scenario) (network : Network) (hs : List Happening) (device : DeviceId) (t : ℕ)
    (row : LeavingRow) : Type 0 where
  pub cycle : ℕ
  pub occurs : Occurs row cycle
  pub reached : Reaches s hs device (pos (leaving_value network row cycle)) t

-- it does, and the device sends the row's frames
pub record SendsBy (s : Scenario) (network : Network) (hs : List Happening) (device : DeviceId) (t : ℕ)
    (row : LeavingRow) : Type 0 where
  pub leaves : row.device ≡ device
  pub sends : row.sender ≡ device
  pub due : ReachesSome s network hs device t row

-- the same of one of the rows
pub record SendsBySome (s : Scenario) (network : Network) (hs : List Happening) (device : DeviceId) (t : ℕ)
    (rows : List LeavingRow) : Type 0 where
  pub row : LeavingRow
  pub there : IsIn row rows
  pub by : SendsBy s network hs device t row

-- each row's numbers are those of a network in range
abbrev pub AreRowsFit : List LeavingRow → Type 0
AreRowsFit rows = (row : LeavingRow) → IsIn row rows → IsRowFit row

-- each record is found by its number
abbrev pub AreFoundByNumber : List Happening → Type 0
AreFoundByNumber hs = (h : Happening) → IsIn h hs → numbered hs h.note.number ≡ Some h

-- the device dispatches a frame on the link that no record brought to it
abbrev pub SendsSome : Scenario → List Happening → DeviceId → ℕ → LinkId → Type 0
SendsSome s hs device t link = (vl : VlId) × (cycle : ℕ) × Dispatches s hs device t link 0 vl cycle
