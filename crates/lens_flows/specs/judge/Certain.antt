-- Cycles in which delivery is owed by events alone.
use Rattle.std.specs.Prelude.{◌*◌, ◌-◌, ◌≡◌, ◌≤◌, List, false, ℕ}
use Rattle.lens_flows.specs.{declared.judge.flow.Flow.Flow, judge.Fates.{IsBegun, IsOwedFrom}}
use Rattle.run_law.specs.{device.States.{is_off, state_after}, records.Happenings.{Happening, up_to}}
use Rattle.{net_plan.specs.declared.ids.DeviceId.DeviceId, run_law.specs.scenario.Scenarios.Scenario}
use Rattle.tte_units.specs.Amount.{amount}

-- how long a device has to be on
abbrev pub three_cycles : Scenario → ℕ
three_cycles s = 3 * amount s.network.cycle

-- the device was on three cycles before the time
abbrev pub WasOn : Scenario → List Happening → DeviceId → ℕ → Type 0
WasOn s hs device from = is_off (state_after s (up_to (from - three_cycles s) hs) device) ≡ false

-- sender and receiver were on three cycles before the cycle began
pub record WereOn (s : Scenario) (hs : List Happening) (flow : Flow) (from : ℕ) : Type 0 where
  pub long : three_cycles s ≤ from
  pub sender : WasOn s hs flow.of_vl.sender from
  pub receiver : WasOn s hs flow.device from

-- so the delivery that is owed in the cycle that begins so is owed by events alone
pub record IsCertainFrom (s : Scenario) (hs : List Happening) (until : ℕ) (flow : Flow) (cycle from : ℕ) : Type 0 where
  pub owed : IsOwedFrom s hs until flow cycle from
  pub on : WereOn s hs flow from

-- at the time the receiver's clock begins such a cycle
pub record IsCertainAt (s : Scenario) (hs : List Happening) (until : ℕ) (flow : Flow) (t : ℕ) : Type 0 where
  pub cycle : ℕ
  pub begun : IsBegun s hs until flow cycle t
  pub certain : IsCertainFrom s hs until flow cycle t
