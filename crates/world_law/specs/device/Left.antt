-- How the records before a time leave a device: its node is a function of the scenario and the records, but for what is
-- of no use in its state.
use Rattle.std.specs.{List.Contains, Prelude.{◌-ℤ◌, ◌<ℤ◌, ◌<◌, ◌≡◌, ◌≤ℤ◌, ◌≤◌, Bool, IfSome, List, false, pos, true, ℕ}}
use Rattle.{compression.specs.declared.compressed.Compressed.Compressed, net_plan.specs.declared.ids.DeviceId.DeviceId}
use Rattle.run_law.specs.control.Collections.{points_of}
use Rattle.run_law.specs.control.Corrections.{heard_since, integration_cycle, next_cycle, recorded_cycle}
use Rattle.run_law.specs.device.{LocalClocks.{changed_at, local_at_change}, States.{adjustment_before, state_before}}
use Rattle.run_law.specs.{machines.Nodes.{ClockTask, Node}, scenario.Devices.{is_cm, plan_of}}
use Rattle.run_law.specs.machines.Tasks.{IsPending, IsUndone, IsWaiting, Task, reading_for, value_of}
use Rattle.run_law.specs.{records.Happenings.{Happening, earlier}, scenario.Scenarios.{Scenario, is_broken}}
use Rattle.sync_state.specs.declared.state.State.{State, TheVariants.{Joining, Synchronised}}

-- has a device in this state a next correction point?
abbrev pub is_timed : State → Bool
is_timed Joining = true
is_timed Synchronised = true
is_timed other = false

-- the node counts as the events up to the time and the records before it leave the device. What it heard and the number
-- of its next correction point count only where it has one
pub record IsCounted (s : Scenario) (hs : List Happening) (device : DeviceId) (t : ℕ) (node : Node) : Type 0 where
  pub plan : node.standing.plan ≡ plan_of s.network device
  pub adjustment : node.standing.adjustment ≡ adjustment_before s hs device t
  pub integrated : node.standing.integrated ≡ integration_cycle (earlier t hs) device
  pub number : is_timed node.standing.state ≡ true → node.standing.number ≡ next_cycle s hs device t
  pub changed : node.changed ≡ local_at_change s hs device t
  pub heard : is_timed node.standing.state ≡ true → node.heard ≡ heard_since s hs device t
  pub started : IfSome (integration_cycle (earlier t hs) device) (λ cycle. cycle ≤ recorded_cycle (earlier t hs) device)
  pub broken : node.broken ≡ is_broken s device t

-- the node stands as the events up to the time and the records before it leave the device; of the records of the time
-- itself it has heard, and collected, those that are there. Its points count only at a compression master
pub record IsLeft (s : Scenario) (hs : List Happening) (device : DeviceId) (t : ℕ) (node : Node) : Type 0 where
  pub counted : IsCounted s hs device t node
  pub state : node.standing.state ≡ state_before s hs device t
  pub points : is_cm s.network device ≡ true → node.points ≡ points_of hs device

-- what it has done since the last change of its adjustment is what its clock had come to before the time
pub record HasDone (s : Scenario) (hs : List Happening) (device : DeviceId) (t : ℕ) (node : Node) : Type 0 where
  pub undone : (deed : ClockTask) → IsUndone s.network device node deed → (x : ℕ) → changed_at hs device t ≤ x → x < t
      → pos (s.reading device x) <ℤ (value_of s.network deed -ℤ node.standing.adjustment.0)
  pub done : (deed : ClockTask) → Contains node.done deed → (x : ℕ) × (changed_at hs device t ≤ x) × (x < t)
      × ((value_of s.network deed -ℤ node.standing.adjustment.0) ≤ℤ pos (s.reading device x))

-- what it has sent of its points is what its reading had come to before the time
pub record HasSent (s : Scenario) (device : DeviceId) (t : ℕ) (node : Node) : Type 0 where
  pub unsent : (sent : Compressed) → IsWaiting s.network device node sent → (x : ℕ) → x < t
      → pos (s.reading device x) <ℤ sent.at.0
  pub sent : (sent : Compressed) → Contains node.emitted sent → (x : ℕ) × (x < t)
      × (sent.at.0 ≤ℤ pos (s.reading device x))

-- a task of the device is due at the time
abbrev pub HasTaskBy : Scenario → DeviceId → Node → ℕ → Type 0
HasTaskBy s device node t =
    (task : Task) × IsPending s.network device node task × (reading_for s.network node task ≤ℤ pos (s.reading device t))
