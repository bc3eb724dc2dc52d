-- What the answers of the rules say, in the words of runs.
use Rattle.std.specs.Prelude.{Option, option_map, ℤ}
use Rattle.device_rules.specs.declared.correcting.{PointStanding.PointStanding, PointVerdict.PointVerdict}
use Rattle.device_rules.specs.declared.{leaving.Departed.Departed, timed.TimedArrival.TimedArrival}
use Rattle.{net_plan.specs.declared.ids.DeviceId.DeviceId, tte_units.specs.declared.units.Units.Units}
use Rattle.{net_plan.specs.declared.network.Network.Network, sync_state.specs.declared.answers.Verdict.Verdict}
use Rattle.run_law.specs.{control.Leaving.{Departure, leaves, on_cut_way, too_old}, declared.steps.Arrival.Arrival}
use Rattle.{run_law.specs.scenario.Devices.plan_of, sync_state.specs.Standing.Standing}
use Rattle.device_rules.specs.declared.correcting.PointVerdict.TheVariants as points
use Rattle.device_rules.specs.declared.leaving.Departed.TheVariants as departed
use Rattle.device_rules.specs.declared.timed.TimedArrival.TheVariants as timed
use Rattle.run_law.specs.declared.steps.Arrival.TheVariants as arrivals
use Rattle.sync_state.specs.declared.answers.Verdict.TheVariants as verdicts

-- what becomes of a frame at its leaving
abbrev pub departure_as : Departed → Departure
departure_as (departed.Leaves clock) = leaves clock
departure_as departed.TooOld = too_old
departure_as departed.OnCutWay = on_cut_way

-- a whole number of units
abbrev pub unit : ℤ → Units
unit z = record { 0 = z }

-- the same, where there is one
abbrev pub in_units : Option ℤ → Option Units
in_units o = option_map unit o

-- what becomes of a time-triggered frame
abbrev pub arrival_as : TimedArrival → Arrival
arrival_as (timed.Dropped reason) = arrivals.Dropped reason
arrival_as (timed.Accepted vl cycle) = arrivals.Accepted vl cycle
arrival_as (timed.Delivered vl cycle) = arrivals.Delivered vl cycle

-- what a correction point comes to
abbrev pub verdict_as : PointVerdict → Verdict
verdict_as points.Cleared = verdicts.Cleared
verdict_as points.SyncClique = verdicts.SyncClique
verdict_as points.AsyncClique = verdicts.AsyncClique
verdict_as (points.Corrected by) = verdicts.Corrected (unit by)

-- where the synchronisation of the device stands, in this network
abbrev pub standing_of : Network → DeviceId → PointStanding → Standing
standing_of network device s = record {
  plan = plan_of network device;
  state = s.state;
  adjustment = unit s.adjustment;
  number = s.number;
  integrated = s.integrated;
}
