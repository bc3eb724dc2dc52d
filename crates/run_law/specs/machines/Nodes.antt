-- Where a device stands by itself: what it was given and what it has done, in whole lists.
use Rattle.std.specs.List.{last_or}
use Rattle.std.specs.Prelude.{◌&&◌, ◌+ℤ◌, ◌==◌, Bool, List, None, Option, [], false, filter, not, option_map, ℕ, ℤ}
use Rattle.{compression.specs.Clusters.Point, tte_units.specs.Amount.{amount, units_of}}
use Rattle.{compression.specs.declared.compressed.Compressed.Compressed, net_plan.specs.declared.ids.DeviceId.DeviceId}
use Rattle.sync_state.specs.membership.Hearing.{Hearing}
use Rattle.{net_plan.specs.declared.ids.{RowId.RowId, VlId.VlId}, sync_state.specs.Standing.{Standing, begun}}
use Rattle.{net_plan.specs.declared.network.Network.Network, run_law.specs.scenario.Devices.{plan_of, start_of}}
use Rattle.run_law.specs.{declared.steps.Moment.Moment, device.{Standpoints.Standpoint, States.is_off}}

-- the calls of one instant come in this order
pub data Phase : Type 0 where
  turning_on : Phase
  arriving : Phase
  ripening : Phase
  acting : Phase

-- a frame that the device took: its virtual link, the device's cycle, and what its local clock showed
pub record TakenFrame : Type 0 where
  pub vl : VlId
  pub cycle : ℕ
  pub at : ℤ

-- what a device does when its local clock reaches a value: it sends the control frame of a cycle, comes to the
-- correction point of a cycle, or dispatches a row's frame of a cycle
pub data ClockTask : Type 0 where
  sending : ℕ → ClockTask
  correcting : ℕ → ClockTask
  dispatching : RowId → ℕ → ClockTask

-- a device: where its synchronisation stands, whether it is broken, what its local clock showed right after the last
-- change of its adjustment, what it did since then, what it heard since its last correction point, the points that it
-- collected and the frames that it compressed in the present stretch, the time-triggered frames that it took, and the
-- instant and the kind of its last call
pub record Node : Type 0 where
  pub standing : Standing
  pub broken : Bool
  pub changed : ℤ
  pub done : List ClockTask
  pub heard : List Hearing
  pub points : List Point
  pub emitted : List Compressed
  pub taken : List TakenFrame
  pub last : Moment
  pub phase : Phase

-- a device of the network at the beginning
abbrev pub begun_node : Network → DeviceId → Node
begun_node network device =
    let standing = begun (plan_of network device) (start_of network device) in
    record {
      standing = standing;
      broken = false;
      changed = standing.adjustment.0;
      done = [];
      heard = [];
      points = [];
      emitted = [];
      taken = [];
      last = record { time = units_of 0; reading = units_of 0 };
      phase = turning_on;
    }

-- where the device stands when a frame arrives at the moment
abbrev pub standpoint_at : Node → Moment → Standpoint
standpoint_at node moment = record {
  takes_part = not (is_off node.standing.state) && not node.broken;
  state = node.standing.state;
  reading = amount moment.reading;
  adjustment = node.standing.adjustment.0;
}

-- what its local clock shows at the moment
abbrev pub local_at : Node → Moment → ℤ
local_at node moment = moment.reading.0 +ℤ node.standing.adjustment.0

-- the last frame of the virtual link that it took
abbrev pub last_taken_frame : Node → VlId → Option TakenFrame
last_taken_frame node vl = last_or None (filter (λ taking. taking.vl.0 == vl.0) node.taken)

-- the cycle in which it did
abbrev pub last_taken_by : Node → VlId → Option ℕ
last_taken_by node vl = option_map (λ taking. taking.cycle) (last_taken_frame node vl)
