-- What a device dispatches by a row that leaves it.
use Rattle.std.specs.Prelude.{◌%◌, ◌&&◌, ◌*◌, ◌+◌, ◌==◌, ◌||◌, ◌≡◌, ◌≤◌, ◌⊎◌, Bool, List, None, Option, Some, false}
use Rattle.std.specs.Prelude.{not, option_and_then, pos, ℕ}
use Rattle.audit_devices.specs.{Taking.taking_of, declared.taking.Taking.Taking}
use Rattle.net_plan.specs.declared.{ids.{DeviceId.DeviceId, VlId.VlId}, network.Network.Network}
use Rattle.run_law.specs.{device.LocalClocks.Reaches, records.{Happenings.Happening, Order.IsIn}}
use Rattle.run_law.specs.{scenario.{Devices.is_end, Scenarios.Scenario}, timed.Dispatching.{HasAccepted, last_accepted}}
use Rattle.tte_units.specs.Amount.{amount}
use Rattle.audit_sweep.specs.declared.records.dispatches.leaving.{Dispatch.Dispatch, LeavingRow.LeavingRow}

-- at a switch this is the last frame of the virtual link that it took before the time
abbrev pub IsAcceptedLast : Network → List Happening → DeviceId → VlId → ℕ → Option Taking → Type 0
IsAcceptedLast network hs device vl t accepted =
    is_end network device ≡ false → option_and_then (taking_of device vl) (last_accepted hs device vl t) ≡ accepted

-- is it the frame that was taken last, by this record and in this cycle?
abbrev pub is_last : Option Taking → ℕ → ℕ → Bool
is_last None cause cycle = false
is_last (Some taking) cause cycle = taking.number == cause && taking.cycle == cycle

-- is it held as by the sender, with no cause, or as by a switch that took it last?
abbrev pub holds : Bool → ℕ → Bool → Bool → Bool
holds sends cause end last = (sends && cause == 0) || (not end && last)

-- the device has the frame at hand: as its sender, or as a switch that took it last
abbrev pub IsAtHand : Network → List Happening → DeviceId → DeviceId → VlId → ℕ → ℕ → ℕ → Type 0
IsAtHand network hs device sender vl t cause cycle =
    ((sender ≡ device) × (cause ≡ 0)) ⊎ ((is_end network device ≡ false) × HasAccepted hs device vl t cause cycle)

-- the row's frames leave the device, and are of the virtual link, which occurs in the cycle
pub record IsRowFor (row : LeavingRow) (device : DeviceId) (dispatch : Dispatch) : Type 0 where
  pub leaves : row.device ≡ device
  pub of_vl : row.vl ≡ dispatch.vl
  pub begun : 1 ≤ dispatch.cycle
  pub in_phase : dispatch.cycle % row.period ≡ row.phase

-- the device's clock reaches the row's place in the cycle, and it has the frame at hand
pub record IsReady (s : Scenario) (network : Network) (hs : List Happening) (device : DeviceId) (t : ℕ)
    (dispatch : Dispatch) (row : LeavingRow) : Type 0 where
  pub reached : Reaches s hs device (pos (dispatch.cycle * amount network.cycle + row.offset)) t
  pub at_hand : IsAtHand network hs device row.sender dispatch.vl t dispatch.cause dispatch.cycle

-- the device, which is up, dispatches this by the row
pub record IsRowDispatched (s : Scenario) (network : Network) (hs : List Happening) (device : DeviceId) (t : ℕ)
    (dispatch : Dispatch) (row : LeavingRow) : Type 0 where
  pub suits : IsRowFor row device dispatch
  pub ready : IsReady s network hs device t dispatch row

-- it does by one of the rows
pub record SomeDispatched (s : Scenario) (network : Network) (hs : List Happening) (device : DeviceId) (t : ℕ)
    (dispatch : Dispatch) (rows : List LeavingRow) : Type 0 where
  pub row : LeavingRow
  pub there : IsIn row rows
  pub dispatched : IsRowDispatched s network hs device t dispatch row
