-- The names of a network's things.
use Rattle.std.specs.Prelude.{ℕ}
use Rattle.net_plan.specs.{Ranges.IsInRange, Rules.{DeviceIsNew, LinkIsNew}, declared.network.Network.Network}
use Rattle.schedule_tables.specs.Schedule.{VlNameIsNew}

-- the network is in its ranges, and no two devices, no two links and no two virtual links have one name
pub record IsNamed (network : Network) : Type 0 where
  pub in_range : IsInRange network
  pub devices : (i : ℕ) → DeviceIsNew network i
  pub links : (i : ℕ) → LinkIsNew network i
  pub vls : (i : ℕ) → VlNameIsNew network i
