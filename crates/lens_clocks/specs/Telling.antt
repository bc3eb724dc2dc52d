-- The local clocks that are told of a time.
use Rattle.std.specs.List.{cons_option}
use Rattle.std.specs.Prelude.{◌++◌, List, None, Option, Some, [], if◌then◌else◌, length, suc, zero, ℕ}
use Rattle.{device_rules.specs.Widths.IsLocal, lens_clocks.specs.declared.telling.DeviceClock.DeviceClock}
use Rattle.net_plan.specs.{Belonging.HasDevice, declared.{ids.DeviceId.DeviceId, network.Network.Network}}
use Rattle.run_law.specs.device.{LocalClocks.local, States.{is_synchronised, state_after}}
use Rattle.run_law.specs.{records.Happenings.{Happening, up_to}, scenario.Scenarios.{Scenario, is_broken}}

-- the local clock of the device at the time, once all records of this time have come, if the device is correct and
-- synchronised then
abbrev pub clock_of : Scenario → List Happening → ℕ → DeviceId → Option DeviceClock
clock_of s hs t device =
    if is_broken s device t then None
    else if is_synchronised (state_after s (up_to t hs) device)
    then Some (record { device = device; local = local s hs device t })
    else None

-- those of the first so many devices, in their order
abbrev pub clocks_of : Scenario → List Happening → ℕ → ℕ → List DeviceClock
clocks_of s hs t zero = []
clocks_of s hs t (suc n) = clocks_of s hs t n ++ cons_option (clock_of s hs t (record { 0 = n })) []

-- those of all devices of the network
abbrev pub clocks_at : Scenario → List Happening → ℕ → List DeviceClock
clocks_at s hs t = clocks_of s hs t (length s.network.device)

-- the clock is that of a device of the network, and in its range
pub record IsWritable (network : Network) (clock : DeviceClock) : Type 0 where
  pub device : HasDevice network clock.device
  pub fits : IsLocal clock.local
