-- What a device hears, and the record of what becomes of it.
use Rattle.std.specs.Prelude.{◌≡◌, ◌≤◌, List, None, Option, Some, length, ℕ}
use Rattle.net_plan.specs.declared.{ids.{DeviceId.DeviceId, LinkId.LinkId}, network.Network.Network}
use Rattle.tte_units.specs.declared.frames.pcf.Pcf.{Pcf}
use Rattle.run_law.specs.{control.Wires.{Signal, signal_of, timed}, declared.steps.{Arrival.Arrival, Moment.Moment}}
use Rattle.run_law.specs.machines.{Calls.{HasLink, MayArrive, MayCall}, Nodes.{Node, arriving}, Tasks.IsDueReading}
use Rattle.world_law.specs.world.Outcomes.{arrival_body}
use Rattle.device_rules.specs.Reading.{StandsAsBefore}
use Rattle.world_state.specs.declared.hearing.Before.{Before, TheVariants.{Due, Same}}
use Rattle.world_state.specs.{Views.octets_of, declared.{contents.Timed.Timed, queue.DueAt.DueAt}}
use Rattle.world_state.specs.declared.contents.{Settled.Settled, Signal.{Signal as SignalSent}, Timed.TheVariants.Sent}
use Rattle.run_law.specs.declared.steps.Arrival.TheVariants as arrivals
use Rattle.world_state.specs.declared.contents.Signal.TheVariants as signals
use Rattle.world_state.specs.Keeping.{Meaning}

-- a frame of these octets is on a wire as this
pub record AreOctetsOf (signal : Signal) (octets : List ℕ) : Type 0 where
  pub is : signal_of octets ≡ signal
  pub least : 60 ≤ length octets
  pub most : length octets ≤ 1514

-- octets of the schedule are no protocol control frame
abbrev pub IsAsSent : Network → SignalSent → Type 0
IsAsSent network (signals.Control frame) = Unit {0}
IsAsSent network (signals.Timed octets) = signal_of (octets_of network octets) ≡ timed (octets_of network octets)
IsAsSent network (signals.Octets given) = Unit {0}

-- what is on the wire may come to the device by the link
pub record MayCome (signal : Signal) (moment : Moment) (link : LinkId) (network : Network) (device : DeviceId)
    (node : Node) : Type 0 where
  pub call : MayCall network device node moment arriving
  pub arrives : (octets : List ℕ) → AreOctetsOf signal octets → HasLink network device
      → MayArrive network device link octets

-- this tells what the device of the machine had to do: what it has to do now, or when it acted next by itself
abbrev pub TellsBefore : {M : Type 0} → Meaning M → M → M → Before → Type 0
TellsBefore stands old new Same = StandsAsBefore stands old new
TellsBefore stands old new (Due due) =
    (network : Network) (device : DeviceId) (node : Node) → stands old network device node
    → IsDueReading network device node due

-- the octets of what was on the wire, where they were those of a frame of the schedule
abbrev pub timed_in : SignalSent → Option Timed
timed_in (signals.Control frame) = None
timed_in (signals.Timed octets) = Some octets
timed_in (signals.Octets given) = Some (Sent given)

-- the frame of the record of what becomes of it
abbrev pub frame_kept : Arrival → Option Pcf
frame_kept (arrivals.Dropped reason) = None
frame_kept (arrivals.Waits frame point) = Some frame
frame_kept (arrivals.Passes frame way) = Some frame
frame_kept (arrivals.PassesAndWaits frame way point) = Some frame
frame_kept (arrivals.Accepted vl cycle) = None
frame_kept (arrivals.Delivered vl cycle) = None

-- and its octets
abbrev pub octets_kept : Arrival → SignalSent → Option Timed
octets_kept (arrivals.Accepted vl cycle) signal = timed_in signal
octets_kept (arrivals.Delivered vl cycle) signal = timed_in signal
octets_kept other signal = None

-- the record
abbrev pub arrived : DueAt → Arrival → SignalSent → Settled
arrived place is signal = record {
  body = arrival_body (record { 0 = place.device }) (record { 0 = place.link }) place.cause is;
  frame = frame_kept is;
  octets = octets_kept is signal;
}
