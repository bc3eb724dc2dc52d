-- What an end system does when something is due.
use Rattle.std.specs.Prelude.{◌+◌, ◌^◌, ◌≤ℤ◌, ◌≤◌, IfSome, Some, pos}
use Rattle.end_system.specs.{Agendas.IsFirstDue, Owns.HasOwnRange}
use Rattle.{end_system.specs.{RowSlots.AreSomeRows, Standing.StandsAsEnd}, sync_state.specs.Standing.next_point}
use Rattle.{end_system.specs.declared.agenda.Due.Due, run_law.specs.machines.{Answers.IsActOf, Nodes.{Node, acting}}}
use Rattle.{end_system.specs.declared.end_system.EndSystem.EndSystem, net_plan.specs.declared.network.Network.Network}
use Rattle.{net_plan.specs.declared.ids.DeviceId.DeviceId, run_law.specs.machines.Calls.{MayCall, StandsFor}}
use Rattle.{run_law.specs.declared.steps.{Act.Act, Moment.Moment}, sync_state.specs.correction.Deviation.IsSmall}

-- it stands as a device that may act at the moment, and this is the first that is due
abbrev pub MayDo : EndSystem → Moment → Due → Type 0
MayDo e moment due =
    StandsFor StandsAsEnd e (λ network device node. MayCall network device node moment acting)
    × IsFirstDue e.agenda moment.reading.0 (Some due)

-- it has done what was due first, and stands as the device that did
abbrev pub Does : EndSystem → Moment → Due → Act → EndSystem → Type 0
Does old moment due act new =
    (network : Network) (device : DeviceId) (node : Node) → StandsAsEnd old network device node
    → MayCall network device node moment acting
    → (after : Node) × IsActOf network device node moment act after × StandsAsEnd new network device after

-- its numbers are such that what comes next can be reckoned
pub record CanPlan (e : EndSystem) : Type 0 where
  pub range : HasOwnRange e.own
  pub rows : AreSomeRows e.rows
  pub number : IfSome (next_point e.sync) (λ n. n ≤ 2 ^ 21 + 2 ^ 18)
  pub small : IsSmall e.sync.adjustment.0
  pub begun : pos 0 ≤ℤ e.last.reading.0
  pub low : e.last.reading.0 ≤ℤ pos (2 ^ 60 + 2 ^ 51)
