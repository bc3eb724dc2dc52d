-- The clocks at the end of the events.
use Rattle.std.specs.Prelude.{◌∷◌, ◌≡◌, List, MatchOption, Option, [], ℕ}
use Rattle.{audit_sweep.specs.records.places.Placing.HasRecordAt, net_plan.specs.declared.network.Network.Network}
use Rattle.{net_plan.specs.{Belonging.HasDevice, declared.event.Event.Event}, run_law.specs.runs.DueRecords.EndsAt}
use Rattle.{net_plan.specs.declared.ids.DeviceId.DeviceId, run_law.specs.records.Happenings.Happening}
use Rattle.tte_units.specs.Amount.{units_of}

-- the events end at this time, and at no other
pub record IsOnlyEnd (events : List Event) (end : ℕ) : Type 0 where
  pub ends : EndsAt events (units_of end)
  pub only : (t : ℕ) → EndsAt events (units_of t) → t ≡ end

-- a record stands at the place of the device's clock at the time
abbrev pub HasClockAt : List Happening → DeviceId → ℕ → Type 0
HasClockAt hs device time = HasRecordAt hs (time ∷ 14 ∷ device.0 ∷ [])

-- the device is one of the network's, and no record stands there
pub record IsUntoldDevice (network : Network) (hs : List Happening) (time : ℕ) (device : DeviceId) : Type 0 where
  pub there : HasDevice network device
  pub untold : HasClockAt hs device time → ⊥

-- the device is so, or each has its record there
abbrev pub IsUntold : Network → List Happening → ℕ → Option DeviceId → Type 0
IsUntold network hs time result =
    MatchOption result ((device : DeviceId) → HasDevice network device → HasClockAt hs device time)
    (IsUntoldDevice network hs time)
