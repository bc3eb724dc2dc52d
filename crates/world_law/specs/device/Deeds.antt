-- What a device has done, while it acts.
use Rattle.std.specs.{List.Contains, Prelude.{◌-ℤ◌, ◌<ℤ◌, ◌<◌, ◌≤ℤ◌, ◌≤◌, List, pos, ℕ}}
use Rattle.{compression.specs.declared.compressed.Compressed.Compressed, run_law.specs.scenario.Scenarios.Scenario}
use Rattle.net_plan.specs.declared.{ids.DeviceId.DeviceId, network.Network.Network}
use Rattle.{run_law.specs.records.Order.IsBefore, world_law.specs.source.Sources.task_place}
use Rattle.run_law.specs.machines.{Nodes.{ClockTask, Node}, Tasks.{IsUndone, IsWaiting, Task, doing, emitting, value_of}}

-- the adjustment changed last at `changed`. What the device has still to do its clock had not come to before `low`, and
-- what it has done its clock had come to before `high`
pub record HasDoneFrom (network : Network) (reading : ℕ → ℕ) (device : DeviceId) (node : Node)
    (changed low high : ℕ) : Type 0 where
  pub undone : (deed : ClockTask) → IsUndone network device node deed → (x : ℕ) → changed ≤ x → x < low
      → pos (reading x) <ℤ (value_of network deed -ℤ node.standing.adjustment.0)
  pub done : (deed : ClockTask) → Contains node.done deed → (x : ℕ) × (changed ≤ x) × (x < high)
      × ((value_of network deed -ℤ node.standing.adjustment.0) ≤ℤ pos (reading x))

-- what it has still to send of its points its reading had not come to before `low`, and what it has sent it had before
-- `high`
pub record HasSentFrom (s : Scenario) (device : DeviceId) (node : Node) (low high : ℕ) : Type 0 where
  pub unsent : (sent : Compressed) → IsWaiting s.network device node sent → (x : ℕ) → x < low
      → pos (s.reading device x) <ℤ sent.at.0
  pub sent : (sent : Compressed) → Contains node.emitted sent → (x : ℕ) × (x < high)
      × (sent.at.0 ≤ℤ pos (s.reading device x))

-- what it has still to do, or to send of its points, its clock had not come to before the time `up`; and what it has done
-- since its adjustment changed last, at `changed`, and what it has sent, it had come to where that stands before the
-- frontier
pub record HasWorkedTo (s : Scenario) (device : DeviceId) (node : Node) (changed up : ℕ)
    (frontier : List ℕ) : Type 0 where
  pub undone : (deed : ClockTask) → IsUndone s.network device node deed → (x : ℕ) → changed ≤ x → x < up
      → pos (s.reading device x) <ℤ (value_of s.network deed -ℤ node.standing.adjustment.0)
  pub done : (deed : ClockTask) → Contains node.done deed → (x : ℕ) × (changed ≤ x)
      × IsBefore (task_place s.network x device (doing deed)) frontier
      × ((value_of s.network deed -ℤ node.standing.adjustment.0) ≤ℤ pos (s.reading device x))
  pub unsent : (sent : Compressed) → IsWaiting s.network device node sent → (x : ℕ) → x < up
      → pos (s.reading device x) <ℤ sent.at.0
  pub sent : (sent : Compressed) → Contains node.emitted sent → (x : ℕ)
      × IsBefore (task_place s.network x device (emitting sent)) frontier × (sent.at.0 ≤ℤ pos (s.reading device x))

-- it has done the task
abbrev pub HasDoneTask : Node → Task → Type 0
HasDoneTask node (emitting sent) = Contains node.emitted sent
HasDoneTask node (doing deed) = Contains node.done deed

-- its clock had come to the task before the time: to a deed since its adjustment changed last, at `changed`
abbrev pub HadComeTo : Scenario → DeviceId → Node → ℕ → ℕ → Task → Type 0
HadComeTo s device node changed t (emitting sent) =
    (x : ℕ) × (x < t) × (sent.at.0 ≤ℤ pos (s.reading device x))
HadComeTo s device node changed t (doing deed) =
    (x : ℕ) × (changed ≤ x) × (x < t)
    × ((value_of s.network deed -ℤ node.standing.adjustment.0) ≤ℤ pos (s.reading device x))
