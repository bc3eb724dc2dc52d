-- When a device is ready to be called.
use Rattle.std.specs.Prelude.{◌+ℤ◌, ◌+◌, ◌<ℤ◌, ◌<◌, ◌^◌, ◌≡◌, ◌≤ℤ◌, ◌≤◌, pos, ℕ}
use Rattle.net_plan.specs.declared.{ids.DeviceId.DeviceId, network.Network.Network}
use Rattle.{run_law.specs.machines.{Nodes.Node, Tasks.{IsPending, Task, reading_for}}, tte_units.specs.Amount.amount}

-- between two units of time the clock goes on by less than the precision, and by less than 2^22 units, which is less
-- than any frame takes at a port; it never falls, and it is never much ahead
pub record IsSteady (reading : ℕ → ℕ) (precision : ℕ) : Type 0 where
  pub never_falls : (t u : ℕ) → t ≤ u → reading t ≤ reading u
  pub no_jump : (t : ℕ) → reading (t + 1) < reading t + precision
  pub no_leap : (t : ℕ) → reading (t + 1) < reading t + 2 ^ 22
  pub low : (t : ℕ) → t ≤ 2 ^ 60 → reading t ≤ 2 ^ 60 + 2 ^ 51

-- at the time nothing has been due before, and what is due has not waited for as long as the precision
pub record IsReadyAt (reading : ℕ → ℕ) (network : Network) (device : DeviceId) (node : Node) (now : ℕ) : Type 0 where
  pub time : node.last.time.0 ≤ℤ pos now
  pub begun : pos 0 ≤ℤ node.last.time.0
  pub last : node.last.reading.0 ≡ pos (reading (amount node.last.time))
  pub undone : (task : Task) → IsPending network device node task → (x : ℕ) → x < now
      → pos (reading x) <ℤ reading_for network node task
  pub in_time : (task : Task) → IsPending network device node task
      → pos (reading now) <ℤ (reading_for network node task +ℤ network.precision.0)
