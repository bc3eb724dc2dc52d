-- The parts of a state as the law of worlds sees them.
use Rattle.std.specs.{Option.option_map_or, Prelude.{List, None, Ok, Option, Some, [], replicate, slice_get, ℕ}}
use Rattle.{net_plan.specs.declared.network.Network.Network, world_state.specs.declared.contents.Timed.Timed}
use Rattle.run_law.specs.{control.Wires.{Signal, control, signal_of, timed}, records.Happenings.Happening}
use Rattle.{run_law.specs.records.Frames.tt_frame_by, tte_units.specs.Amount.units_of}
use Rattle.world_law.specs.world.World.{AtPort, Befell, OnWire, Stored, Waiting, WayNow}
use Rattle.world_state.specs.declared.contents.{Befallen.Befallen, Holding.Holding, Settled.Settled, WayState.WayState}
use Rattle.world_state.specs.declared.contents.{Content.{Content, TheVariants.{Port, Wire}}, Signal.{Signal as Sent}}
use Rattle.world_state.specs.declared.{contents.Waits.Waits, queue.{DueAt.DueAt, Entry.Entry}}
use Rattle.world_state.specs.declared.contents.Signal.TheVariants as signals
use Rattle.world_state.specs.declared.contents.Timed.TheVariants as octets

-- the octets of a frame of the schedule; zeros stand for a virtual link that the network does not have
abbrev pub octets_of : Network → Timed → List ℕ
octets_of network (octets.Made vl cycle) =
    option_map_or (λ v. tt_frame_by network v cycle) (slice_get network.vl vl.0) (replicate 60 0)
octets_of network (octets.Sent given) = given

abbrev pub signal_as : Network → Sent → Signal
signal_as network (signals.Control frame) = control (Ok frame)
signal_as network (signals.Timed octets) = timed (octets_of network octets)
signal_as network (signals.Octets given) = signal_of given

-- what is on a wire
abbrev pub wire_at : Network → DueAt → Content → Option OnWire
wire_at network place (Wire signal) = Some (record {
  at = place.at;
  device = record { 0 = place.device };
  link = record { 0 = place.link };
  cause = place.cause;
  signal = signal_as network signal;
})
wire_at network place (Port frame reading) = None

abbrev pub on_wire : Network → Entry Content → Option OnWire
on_wire network e = wire_at network e.place e.content

-- what is at a port
abbrev pub port_at : DueAt → Content → Option AtPort
port_at place (Wire signal) = None
port_at place (Port frame reading) = Some (record {
  at = place.at;
  device = record { 0 = place.device };
  link = record { 0 = place.link };
  cause = place.cause;
  frame = frame;
  reading = reading;
})

abbrev pub at_port : Entry Content → Option AtPort
at_port e = port_at e.place e.content

abbrev pub waiting_as : Waits → Waiting
waiting_as w = record { device = w.device; link = w.link; cause = w.cause; frame = w.frame; point = w.point }

abbrev pub stored_as : Network → Holding → Stored
stored_as network h = record { device = h.device; vl = h.vl; number = h.number; octets = octets_of network h.octets }

abbrev pub befell_as : Befallen → Befell
befell_as b = record { number = b.number; what = b.what }

abbrev pub way_as : WayState → WayNow
way_as w = record { delay = w.delay; hold = w.hold; cut = w.cut }

abbrev pub octets_in : Network → Option Timed → List ℕ
octets_in network None = []
octets_in network (Some given) = octets_of network given

-- a record that is to be given, at the time
abbrev pub settled_at : Network → ℕ → Settled → Happening
settled_at network now z = record {
  note = record { number = 0; time = units_of now; body = z.body };
  frame = z.frame;
  octets = octets_in network z.octets;
}
