-- How an end system stands as a device.
use Rattle.std.specs.Prelude.{◌+ℤ◌, ◌+◌, ◌-ℤ◌, ◌^◌, ◌≡◌, ◌≤ℤ◌, ◌≤◌, IfSome, None, false, neg_ℤ, pos, ℕ, ℤ}
use Rattle.{device_rules.specs.Intakes.HasTaken, run_law.specs.scenario.Devices.plan_of}
use Rattle.{end_system.specs.{Agendas.IsAgenda, Owns.IsOwnOf}, sync_state.specs.Plan.expected_at}
use Rattle.{end_system.specs.RowSlots.{AreRowsOf, IsAtSlot}, sync_state.specs.Standing.{Standing, next_point}}
use Rattle.{end_system.specs.declared.end_system.EndSystem.EndSystem, net_plan.specs.declared.network.Network.Network}
use Rattle.{net_plan.specs.declared.ids.DeviceId.DeviceId, sync_state.specs.correction.Deviation.IsSmall}
use Rattle.run_law.specs.{control.{Collections.observation_window, Corrections.correction_value}, machines.Nodes.Node}
use Rattle.sync_state.specs.{declared.membership.frame.HeardFrame.HeardFrame, membership.Summary.{Summarizes, Summary}}

-- the frame was heard within its time, with this adjustment, and at a reading in the range of runs
pub record IsHeardSo (network : Network) (s : Standing) (frame : HeardFrame) : Type 0 where
  pub cycle : frame.cycle ≤ 2 ^ 20 + 2 ^ 17
  pub from : (expected_at s.plan frame.cycle -ℤ observation_window network) ≤ℤ (frame.point.0 +ℤ s.adjustment.0)
  pub to : (frame.point.0 +ℤ s.adjustment.0) ≤ℤ (expected_at s.plan frame.cycle +ℤ observation_window network)
  pub low : neg_ℤ (pos (2 ^ 40)) ≤ℤ frame.point.0
  pub high : frame.point.0 ≤ℤ pos (2 ^ 60 + 2 ^ 51)

-- what is kept of the frames heard is of frames that were
pub record AreHeardSo (network : Network) (s : Standing) (heard : Summary) : Type 0 where
  pub a : IfSome heard.best_a (IsHeardSo network s)
  pub b : IfSome heard.best_b (IsHeardSo network s)

-- behind the last cycle of frames no frame is within its time, so that a device does not get beyond the next: its clock
-- has passed the correction point before it, up to a precision, and it has heard nothing
pub record IsAtEnd (network : Network) (s : Standing) (heard : Summary) (reading : ℤ) : Type 0 where
  pub none_a : heard.best_a ≡ None
  pub none_b : heard.best_b ≡ None
  pub passed : correction_value network (2 ^ 20 + 2 ^ 17 + 1) ≤ℤ ((reading +ℤ s.adjustment.0) +ℤ network.precision.0)

-- the cycle of the next correction point is one that runs come to
pub record HasNumber (network : Network) (s : Standing) (heard : Summary) (reading : ℤ) (cycle : ℕ) : Type 0 where
  pub bound : cycle ≤ 2 ^ 20 + 2 ^ 17 + 2
  pub at_end : cycle ≡ 2 ^ 20 + 2 ^ 17 + 2 → IsAtEnd network s heard reading

-- it stands as the device of the network
pub record StandsAsEnd (e : EndSystem) (network : Network) (device : DeviceId) (node : Node) : Type 0 where
  pub own : IsOwnOf network device e.own
  pub sound : node.broken ≡ false
  pub standing : node.standing ≡ e.sync
  pub plan : node.standing.plan ≡ plan_of network device
  pub last : node.last ≡ e.last
  pub begun : pos 0 ≤ℤ node.last.reading.0
  pub small : IsSmall node.standing.adjustment.0
  pub heard : Summarizes e.heard node.heard
  pub near : AreHeardSo network node.standing e.heard
  pub joined : IfSome node.standing.integrated (λ cycle. cycle ≤ 2 ^ 20 + 2 ^ 17)
  pub number : IfSome (next_point node.standing) (HasNumber network node.standing e.heard node.last.reading.0)
  pub rows : AreRowsOf network device e.rows
  pub entering : HasTaken network device e.entering node.taken
  pub slot : IfSome e.agenda.dispatch (IsAtSlot e.rows)
  pub agenda : IsAgenda network device node.standing node.changed node.done e.agenda
