-- Frames on the wires.
use Rattle.std.specs.{Option.option_map_or, Prelude.{option_map, ℕ}}
use Rattle.std.specs.Prelude.{◌*◌, ◌+◌, ◌==◌, ◌≡◌, List, None, Ok, Option, Result, Some, if◌then◌else◌, length}
use Rattle.net_plan.specs.{Places.link_at, declared.{event.What.TheVariants.Send, ids.DeviceId.DeviceId}}
use Rattle.net_plan.specs.declared.{ids.LinkId.LinkId, network.Network.Network, tables.Way.{Way, TheVariants.Up}}
use Rattle.pcf_codec.specs.{Decoding.decoded, EtherType.pcf_type, Fields.field, declared.refusal.PcfRefusal.PcfRefusal}
use Rattle.tte_units.specs.declared.frames.pcf.Pcf.{Pcf}
use Rattle.tte_units.specs.OctetTime.{octet_time}
use Rattle.run_law.specs.{declared.note.NoteBody.NoteBody, records.Happenings.{Happening, time_of}}
use Rattle.run_law.specs.scenario.{Scenarios.Scenario, Ways.{delay_at, is_cut, receiver_of, way_from}}
use Rattle.run_law.specs.declared.note.NoteBody.TheVariants as notes

-- what a device finds on a wire: a protocol control frame, as its octets decode, or the octets of any other frame
pub data Signal : Type 0 where
  control : Result Pcf PcfRefusal → Signal
  timed : List ℕ → Signal

-- what octets are on a wire: those with the EtherType of protocol control frames are one
abbrev pub signal_of : List ℕ → Signal
signal_of octets = if field 12 2 octets == pcf_type then control (decoded octets) else timed octets

-- a frame that is put on a way of a link
pub record Launch : Type 0 where
  pub link : LinkId
  pub way : Way
  pub signal : Signal

-- the frame that a record puts on a way: a control frame that leaves, a time-triggered frame that is dispatched,
-- or the octets of a `send` event, which go up from the broken master where that way is not cut
abbrev pub launched : Scenario → Happening → ℕ → NoteBody → Option Launch
launched s h t (notes.Left device link cause clock) =
    option_map (λ frame. record { link = link; way = way_from s.network device link; signal = control (Ok frame) })
    h.frame
launched s h t (notes.TtSent device link cause vl cycle) =
    Some (record { link = link; way = way_from s.network device link; signal = timed h.octets })
launched s h t (notes.Event line (Send link octets)) =
    if is_cut s link Up t then None else Some (record { link = link; way = Up; signal = signal_of octets })
launched s h t other = None

-- how long the frame is on its port before it has arrived: a control frame is timed by its first octet, any other
-- by its last, with the 24 octets of preamble, delimiter, check sequence and gap (IEEE 802.3)
abbrev pub time_on_port : Network → LinkId → Signal → ℕ
time_on_port network link (control frame) = 0
time_on_port network link (timed octets) =
    option_map_or (λ l. (length octets + 24) * octet_time l.speed) (link_at network link) 0

-- the frame that the record puts on a wire arrives at the device by the link at this time: its time on the port and
-- the wire delay of that time later
pub record Arrives (s : Scenario) (h : Happening) (device : DeviceId) (link : LinkId) (t : ℕ)
    (signal : Signal) : Type 0 where
  pub way : Way
  pub put : launched s h (time_of h) h.note.body ≡ Some (record { link = link; way = way; signal = signal })
  pub receiver : receiver_of s.network link way ≡ Some device
  pub at : t ≡ time_of h + time_on_port s.network link signal + delay_at s link way (time_of h)
