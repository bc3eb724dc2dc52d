-- The capture of one way of a link in the records of a run.
use Rattle.std.specs.{List.list_any, Prelude.{if◌then◌else◌, nat_lt, not, option_map, ℕ}}
use Rattle.std.specs.Prelude.{◌%◌, ◌&&◌, ◌/◌, ◌==◌, ◌||◌, Bool, List, None, Option, false, filter, filter_map}
use Rattle.{device_rules.specs.frames.traced.RecordOctets.record_octets, world_drive.specs.exact.Records.clock_reading}
use Rattle.{net_plan.specs.declared.event.Event.Event, tte_observers.specs.captures.pcap.Writing.packet_octets}
use Rattle.net_plan.specs.declared.{event.What.TheVariants.Send, network.Network.Network, tables.Way.TheVariants.Up}
use Rattle.{net_plan.specs.declared.ids.LinkId.LinkId, run_law.specs.scenario.Ways.{is_cut, is_way_of, way_from}}
use Rattle.{net_plan.specs.declared.tables.Way.Way, run_law.specs.declared.note.Note.Note}
use Rattle.run_law.specs.{declared.note.NoteBody.NoteBody, records.Happenings.{Happening, happenings, time_of}}
use Rattle.{run_law.specs.{records.Ranks.rank, scenario.Scenarios.Scenario}, world_law.specs.source.Agreeing.scenario}
use Rattle.run_law.specs.declared.note.NoteBody.TheVariants as notes

-- ---- a packet

-- the microseconds that are over at the time, of 65,536,000 units each
abbrev pub micros_at : ℕ → ℕ
micros_at t = t / 65536000

-- the packet of the octets that are put on a way at the time: its stamp is the whole seconds and the rest
abbrev pub packet_at : ℕ → List ℕ → List ℕ
packet_at t octets = packet_octets (micros_at t / 1000000) (micros_at t % 1000000) octets

-- ---- what a way carries

-- does the device of the record send its frame on this way of this link? A control frame leaves, or a frame of the
-- schedule is dispatched
abbrev pub is_sent_on : Network → LinkId → Way → NoteBody → Bool
is_sent_on network link way (notes.Left device other cause clock) =
    is_way_of link way other (way_from network device other)
is_sent_on network link way (notes.TtSent device other cause vl cycle) =
    is_way_of link way other (way_from network device other)
is_sent_on network link way other = false

-- does this way carry the frame of a record of this time? It is sent there; or a broken master sends octets, which go
-- up its link unless that way is cut by all events up to the time
abbrev pub is_carried : Scenario → LinkId → Way → ℕ → NoteBody → Bool
is_carried s link way t (notes.Event line (Send other octets)) =
    is_way_of link way other Up && not (is_cut s other Up t)
is_carried s link way t other = is_sent_on s.network link way other

-- the packet of the record's frame, where this way carries it
abbrev pub packet_of : Scenario → LinkId → Way → Happening → Option (List ℕ)
packet_of s link way h =
    if is_carried s link way (time_of h) h.note.body then option_map (packet_at (time_of h)) (record_octets h) else None

-- the packets of these records, in their order
abbrev pub packets_of : Scenario → LinkId → Way → List Happening → List (List ℕ)
packets_of s link way hs = filter_map (packet_of s link way) hs

-- the network under the events, with exact clocks
abbrev pub scenario_under : Network → List Event → Scenario
scenario_under network events = scenario network (clock_reading network events) events

-- the packets of the way in the records of a run
abbrev pub capture_of : Network → LinkId → Way → List Event → List Note → List (List ℕ)
capture_of network link way events records =
    packets_of (scenario_under network events) link way (happenings network records)

-- ---- what is known of an instant

-- is the record behind those of the events of this time?
abbrev pub is_behind_events : ℕ → Happening → Bool
is_behind_events t g = nat_lt t (time_of g) || (t == time_of g && nat_lt 1 (rank g.note.body))

-- are all events of the record's time known, as a record behind them is there?
abbrev pub is_settled : List Happening → Happening → Bool
is_settled hs h = list_any (is_behind_events (time_of h)) hs

-- the records of which that is so, and the others
abbrev pub settled : List Happening → List Happening
settled hs = filter (is_settled hs) hs

abbrev pub unsettled : List Happening → List Happening
unsettled hs = filter (λ h. not (is_settled hs h)) hs

-- the packets of the way in the records of a run, but for those that a further event of their time might cut
abbrev pub settled_capture : Network → LinkId → Way → List Event → List Note → List (List ℕ)
settled_capture network link way events records =
    packets_of (scenario_under network events) link way (settled (happenings network records))
