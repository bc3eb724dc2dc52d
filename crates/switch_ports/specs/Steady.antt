-- What is true of a device's clock and of the frames that it has heard.
use Rattle.std.specs.Prelude.{◌*ℤ◌, ◌+ℤ◌, ◌+◌, ◌<ℤ◌, ◌≡◌, ◌≤ℤ◌, ◌≤◌, Bool, IfSome, Some, false, pos, true}
use Rattle.{net_plan.specs.declared.network.Network.Network, run_law.specs.control.Hearing.last_cycle}
use Rattle.{run_law.specs.control.Corrections.correction_value, tte_units.specs.declared.frames.channel.Channel.Channel}
use Rattle.{run_law.specs.machines.Nodes.Node, switch_ports.specs.Standpoints.IsPoint}
use Rattle.sync_state.specs.Plan.{expected_at}
use Rattle.sync_state.specs.{Standing.Standing, declared.state.State.{State, TheVariants.{Joining, Synchronised}}}
use Rattle.sync_state.specs.{declared.membership.frame.HeardFrame.HeardFrame, membership.Summary.{Summary, best_on}}

-- has the device in this state a next correction point?
abbrev pub is_timed : State → Bool
is_timed Joining = true
is_timed Synchronised = true
is_timed other = false

-- a frame that was heard within its time shows at the next correction point a deviation from less than a precision
-- below to two cycles
pub record IsFair (network : Network) (standing : Standing) (frame : HeardFrame) : Type 0 where
  pub cycle : standing.number ≤ last_cycle + 1
  pub point : IsPoint frame.point
  pub behind : (frame.point.0 +ℤ standing.adjustment.0)
      ≤ℤ (expected_at standing.plan standing.number +ℤ network.precision.0)
  pub ahead : expected_at standing.plan standing.number
      ≤ℤ ((frame.point.0 +ℤ standing.adjustment.0) +ℤ (pos 2 *ℤ network.cycle.0))

-- the clock of a device that has a next correction point, and what it has heard
pub record IsSteady (network : Network) (node : Node) (heard : Summary) : Type 0 where
  pub number : node.standing.number ≤ last_cycle + 2
  pub lower : (expected_at node.standing.plan node.standing.number +ℤ (pos 3 *ℤ network.precision.0))
      ≤ℤ (node.changed +ℤ (pos 2 *ℤ network.cycle.0))
  pub upper : node.changed ≤ℤ (node.last.reading.0 +ℤ node.standing.adjustment.0)
  pub joined : node.standing.state ≡ Joining → node.standing.integrated ≡ Some node.standing.number
      → (node.standing.number ≤ last_cycle) × (expected_at node.standing.plan node.standing.number ≤ℤ node.changed)
  pub fair : node.changed <ℤ correction_value network node.standing.number → (channel : Channel)
      → IfSome (best_on channel heard) (IsFair network node.standing)
