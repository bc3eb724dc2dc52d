-- Where and when a frame arrives.
use Rattle.std.specs.Prelude.{◌≡◌, ◌≤◌, List, MatchOption, Option, ℕ}
use Rattle.{audit_law.specs.law.Arrivals.OwesArrival, net_plan.specs.declared.ids.LinkId.LinkId}
use Rattle.audit_sweep.specs.declared.records.wires.{putting.OnWire.OnWire, receiving.Reception.Reception}
use Rattle.{audit_sweep.specs.records.wires.Signals.on_wire_of, net_plan.specs.declared.ids.DeviceId.DeviceId}
use Rattle.run_law.specs.{control.Wires.{Arrives, Signal}, records.Happenings.Happening, scenario.Scenarios.Scenario}

-- what the record puts on a wire arrives so, and in no other way
pub record IsReception (s : Scenario) (h : Happening) (r : Reception) : Type 0 where
  pub signal : Signal
  pub arrives : Arrives s h r.device r.link r.time signal
  pub what : r.what ≡ on_wire_of signal
  pub device : (device : DeviceId) (link : LinkId) (t : ℕ) (other : Signal) → Arrives s h device link t other
      → device ≡ r.device
  pub link : (device : DeviceId) (link : LinkId) (t : ℕ) (other : Signal) → Arrives s h device link t other
      → link ≡ r.link
  pub time : (device : DeviceId) (link : LinkId) (t : ℕ) (other : Signal) → Arrives s h device link t other → t ≡ r.time

-- this arrives by the time of what the record puts on a wire, or nothing
abbrev pub IsReceivedBy : Scenario → Happening → ℕ → Option Reception → Type 0
IsReceivedBy s h until result =
    MatchOption result
    ((device : DeviceId) (link : LinkId) (t : ℕ) (signal : Signal) → Arrives s h device link t signal → t ≤ until → ⊥)
    (λ r. IsReception s h r × (r.time ≤ until))

-- the list owes this arrival by the time, of what the record of this number puts on a wire, or none
abbrev pub IsOwedArrival : Scenario → List Happening → ℕ → ℕ → Option Reception → Type 0
IsOwedArrival s hs until cause result =
    MatchOption result
    (OwesArrival s hs until cause → ⊥)
    (λ r. (o : OwesArrival s hs until cause) × (r.device ≡ o.device) × (r.link ≡ o.link) × (r.time ≡ o.time))

-- this of the record arrives at the device by the link at the time, or nothing
abbrev pub IsArriving : Scenario → Happening → DeviceId → LinkId → ℕ → Option OnWire → Type 0
IsArriving s h device link t result =
    MatchOption result
    ((signal : Signal) → Arrives s h device link t signal → ⊥)
    (λ what. (signal : Signal) × Arrives s h device link t signal × (what ≡ on_wire_of signal))

-- it arrives at this device, by this link and at this time
pub record IsAt (r : Reception) (device : DeviceId) (link : LinkId) (t : ℕ) : Type 0 where
  pub at_device : r.device ≡ device
  pub by_link : r.link ≡ link
  pub at_time : r.time ≡ t
