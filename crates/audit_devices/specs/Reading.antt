-- What is read of what is shown of a device.
use Rattle.std.specs.Prelude.{◌-◌, ◌≡◌, List, ℕ}
use Rattle.net_plan.specs.declared.{ids.DeviceId.DeviceId, network.Network.Network}
use Rattle.run_law.specs.device.{LocalClocks.changes_adjustment, States.is_joined_by}
use Rattle.run_law.specs.{records.{Happenings.{Happening, time_of}, Order.IsIn}, scenario.Scenarios.Scenario}

-- the clock read this a unit of time before the time, in the scenario of the network
pub record ReadBefore (s : Scenario) (network : Network) (device : DeviceId) (t before : ℕ) : Type 0 where
  pub of_network : s.network ≡ network
  pub reads : before ≡ s.reading device (t - 1)

-- of this time only records by which a frame told the device the time changed its adjustment
abbrev pub OnlyJoined : List Happening → DeviceId → ℕ → Type 0
OnlyJoined hs device t =
    (h : Happening) → IsIn h hs → time_of h ≡ t
    → is_joined_by device h.note.body ≡ changes_adjustment device h.note.body
