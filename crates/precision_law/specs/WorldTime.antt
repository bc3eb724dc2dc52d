-- How near world time the common time stays.
use Rattle.std.specs.Prelude.{◌*◌, ◌+ℤ◌, ◌+◌, ◌≤ℤ◌, ◌≤◌, List, pos, ℕ, ℤ}
use Rattle.net_plan.specs.{Bounds.IsBeta, declared.{ids.DeviceId.DeviceId, network.Network.Network}}
use Rattle.precision_law.specs.{Epochs.epoch_cycle, Precision.IsRunUpTo}
use Rattle.run_law.specs.{declared.note.Note.Note, device.LocalClocks.local, law.Safety.IsInStep}
use Rattle.run_law.specs.scenario.Scenarios.{Scenario}
use Rattle.run_law.specs.records.Happenings.{happenings, up_to}
use Rattle.{schedule_tables.specs.Margins.reach_error, tte_units.specs.Amount.amount}

-- what a clock that was last set for this cycle shows is behind the time by at most an error for each cycle up to this
-- one, and ahead of it by at most as much and how far apart clocks may start
pub record IsNearTime (network : Network) (beta cycle t : ℕ) (shown : ℤ) : Type 0 where
  pub least : pos t ≤ℤ (shown +ℤ pos ((cycle + 1) * reach_error network beta))
  pub most : shown ≤ℤ (pos t +ℤ pos (amount network.settled + (cycle + 1) * reach_error network beta))

-- each correct synchronised device's clock stays so near the time
abbrev pub ClocksKeepWorldTime : Type 0
ClocksKeepWorldTime =
    (s : Scenario) (mark : List ℕ) (ns : List Note) (until beta : ℕ) → IsRunUpTo s mark ns until
    → IsBeta s.network (pos beta) → (t : ℕ) (device : DeviceId) → t ≤ until
    → IsInStep s (happenings s.network ns) device t
    → IsNearTime s.network beta (epoch_cycle (up_to t (happenings s.network ns)) device) t
    (local s (happenings s.network ns) device t)
