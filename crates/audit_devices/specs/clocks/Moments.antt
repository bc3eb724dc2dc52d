-- What befalls a device at a time, and what is shown of it then.
use Rattle.std.specs.Prelude.{◌≡◌, List, ℕ}
use Rattle.audit_devices.specs.{Showing.{IsReading, IsSteady, Shown, Shows}, declared.clocks.moment.DeviceMoment.DeviceMoment}
use Rattle.net_plan.specs.declared.{ids.DeviceId.DeviceId, network.Network.Network}
use Rattle.run_law.specs.records.Happenings.{Happening, earlier}
use Rattle.run_law.specs.scenario.Scenarios.{Scenario, is_broken, is_turned_on_at}

-- the moment is of the device at this time: so its clock reads, and so it is turned on and broken
pub record IsMoment (s : Scenario) (device : DeviceId) (t : ℕ) (moment : DeviceMoment) : Type 0 where
  pub reading : IsReading s device t moment.readings
  pub turned_on : moment.turned_on ≡ is_turned_on_at s device t
  pub broken : moment.broken ≡ is_broken s device t
  pub steady : IsSteady s device

-- this is what befalls the device of the network at the time, and what the records of earlier times show of it
pub record StandsAt (s : Scenario) (hs : List Happening) (network : Network) (device : DeviceId) (t : ℕ)
    (moment : DeviceMoment)
    (shown : Shown) : Type 0 where
  pub of_network : s.network ≡ network
  pub befalls : IsMoment s device t moment
  pub shows : Shows s (earlier t hs) device shown
