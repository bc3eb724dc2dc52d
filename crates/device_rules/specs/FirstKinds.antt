-- The kind of what a device does first.
use Rattle.device_rules.specs.declared.first_kind.TaskKind.{TaskKind, TheVariants.{Correction, Dispatch, Emission, Sending}}
use Rattle.net_plan.specs.declared.{ids.DeviceId.DeviceId, network.Network.Network}
use Rattle.run_law.specs.machines.Nodes.{Node, correcting, dispatching, sending}
use Rattle.run_law.specs.machines.Tasks.{IsPending, Task, doing, emitting, reading_for}
use Rattle.std.specs.Prelude.{◌≡◌, ◌≤ℤ◌, ◌≤◌, ℕ, ℤ}

-- the kind of a task
abbrev pub kind_of : Task → TaskKind
kind_of (emitting sent) = Emission
kind_of (doing (sending cycle)) = Sending
kind_of (doing (correcting cycle)) = Correction
kind_of (doing (dispatching row cycle)) = Dispatch

-- where the kind stands among those of one moment
abbrev pub order_of_kind : TaskKind → ℕ
order_of_kind Emission = 0
order_of_kind Sending = 1
order_of_kind Correction = 2
order_of_kind Dispatch = 3

-- a task of the kind is due at the reading, and none of an earlier kind is
pub record IsFirstKind (network : Network) (device : DeviceId) (node : Node) (reading : ℤ) (kind : TaskKind) : Type 0 where
  pub task : Task
  pub pending : IsPending network device node task
  pub due : reading_for network node task ≤ℤ reading
  pub of_kind : kind_of task ≡ kind
  pub first : (other : Task) → IsPending network device node other → reading_for network node other ≤ℤ reading
      → order_of_kind kind ≤ order_of_kind (kind_of other)
