-- What is kept of the frames on wires.
use Rattle.std.specs.Prelude.{◌*◌, ◌+◌, ◌≡◌, Bool, Err, List, None, Ok, Option, Some, false, option_map, ℕ}
use Rattle.audit_sweep.specs.declared.records.{kept.KeptRecord.KeptRecord, wires.putting.{OnWire.OnWire, Put.Put}}
use Rattle.audit_sweep.specs.declared.records.kept.{Kept.Kept, Sending.Sending}
use Rattle.{device_rules.specs.Headings.heading_of, tte_units.specs.OctetTime.octet_time}
use Rattle.net_plan.specs.declared.{ids.LinkId.LinkId, network.Network.Network, tables.Way.{TheVariants.Up, Way}}
use Rattle.run_law.specs.{control.Wires.{Launch, Signal, control, timed}, records.Happenings.{Happening, happening}}
use Rattle.{run_law.specs.scenario.Scenarios.Scenario, tte_units.specs.declared.speed.Speed.Speed}
use Rattle.{run_law.specs.scenario.Ways.{is_cut, way_from}, tte_units.specs.declared.frames.pcf.Pcf.Pcf}
use Rattle.audit_sweep.specs.declared.records.kept.Kept.TheVariants as kepts
use Rattle.audit_sweep.specs.declared.records.kept.Sending.TheVariants as sendings
use Rattle.audit_sweep.specs.declared.records.wires.putting.OnWire.TheVariants as on_wire

-- what is kept of what is on a wire
abbrev pub on_wire_of : Signal → OnWire
on_wire_of (control decoded) = on_wire.Control decoded
on_wire_of (timed octets) = on_wire.Timed (heading_of octets)

-- what is kept of a frame that is put on a way
abbrev pub put_of : Launch → Put
put_of launch = record { link = launch.link; way = launch.way; what = on_wire_of launch.signal }

-- the frame and the octets of the record are those that it has by its cause
abbrev pub ShowsByCause : Network → Happening → Type 0
ShowsByCause network h = (before : List Happening) × (h ≡ happening network before h.note)

-- a frame that is put on a way
abbrev pub put_on : LinkId → Way → OnWire → Put
put_on link way what = record { link = link; way = way; what = what }

-- a control frame on a wire, if there is one
abbrev pub control_on_wire : Option Pcf → Option OnWire
control_on_wire frame = option_map (λ f. on_wire.Control (Ok f)) frame

-- what the octets of a `send` event are on a wire
abbrev pub sent_on_wire : KeptRecord → Sending → Option OnWire
sent_on_wire r sendings.Control = control_on_wire r.frame
sent_on_wire r (sendings.Refused refusal) = Some (on_wire.Control (Err refusal))
sent_on_wire r sendings.Timed = Some (on_wire.Timed r.heading)

-- what a record of which this is kept puts on a way that is not cut
abbrev pub put_by : Network → KeptRecord → Kept → Option Put
put_by network r (kepts.Left device link) =
    option_map (put_on link (way_from network device link)) (control_on_wire r.frame)
put_by network r (kepts.TtSent device link) =
    option_map (put_on link (way_from network device link)) (Some (on_wire.Timed r.heading))
put_by network r (kepts.Send link sending) = option_map (put_on link Up) (sent_on_wire r sending)
put_by network r rest = None

-- does a cut of the link's way up stop what it puts there at the time? It stops the octets of a `send` event
abbrev pub stops : Scenario → ℕ → LinkId → Kept → Bool
stops s t link (kepts.Send by sending) = is_cut s link Up t
stops s t link rest = false

-- how long a frame is on its port before it has arrived
abbrev pub port_time : Speed → OnWire → ℕ
port_time speed (on_wire.Control decoded) = 0
port_time speed (on_wire.Timed heading) = (heading.length + 24) * octet_time speed
