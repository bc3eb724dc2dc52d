-- What bore on a record: the numbers that its judgement speaks of, beside those that the record says.
use Rattle.std.specs.Option.{option_map_or}
use Rattle.std.specs.Prelude.{◌*◌, ◌+ℤ◌, ◌+◌, ◌-ℤ◌, ◌-◌, Bool, List, None, Option, Some, false}
use Rattle.std.specs.Prelude.{if◌then◌else◌, length, option_and_then, pos, slice_get, true, ℕ, ℤ}
use Rattle.{audit_devices.specs.Keeping.records_before, run_law.specs.scenario.Ways.{hold_at, way_from}}
use Rattle.{lens_why.specs.Collections.{collected_ground, sent_ground}, net_plan.specs.declared.network.Network.Network}
use Rattle.lens_why.specs.{Corrections.{clique_ground, corrected_ground, is_clique}, Seeking.{cut_by, last_sought}}
use Rattle.lens_why.specs.declared.ground.Ground.TheVariants.{Clock, CutBy, Dispatched, Gate, Heard, Held, Length, Line}
use Rattle.lens_why.specs.declared.ground.Ground.TheVariants.{Local, Missed, Reading, Taken, Unknown, Unsynchronised}
use Rattle.lens_why.specs.declared.ground.Ground.{Ground, TheVariants.{Untold, Window}}
use Rattle.lens_why.specs.declared.seeking.{Coming.Coming, Sought.TheVariants.{Taking, Turning}}
use Rattle.{net_plan.specs.declared.ids.{DeviceId.DeviceId, VlId.VlId}, run_law.specs.declared.note.NoteBody.NoteBody}
use Rattle.{net_plan.specs.declared.ids.LinkId.LinkId, tte_units.specs.{Amount.amount, declared.units.Units.Units}}
use Rattle.{net_plan.specs.Places.row_of, pcf_codec.specs.Fields.field, sync_state.specs.Plan.expected_at}
use Rattle.run_law.specs.declared.judgement.Judgement.{Judgement, TheVariants.{Joined, Opened, Outside, Repeat, Within}}
use Rattle.run_law.specs.{declared.judgement.Reason.Reason, scenario.{Devices.{is_relay, plan_of}, Scenarios.Scenario}}
use Rattle.run_law.specs.{declared.judgement.Why.Why, device.States.{adjustment_at_hearing, cycle_in, state_before}}
use Rattle.run_law.specs.{device.Standpoints.{clock_of, cycle_at, offset_in_cycle, standpoint}, records.Ranks.place_of}
use Rattle.run_law.specs.{records.Happenings.{Happening, numbered, time_of}, timed.Arrivals.{entry_entering, entry_of}}
use Rattle.schedule_tables.specs.{Windows.window_of, declared.{entry.Entry.Entry, window.Window.{Window as Places}}}
use Rattle.run_law.specs.declared.judgement.Reason.TheVariants as reasons
use Rattle.run_law.specs.declared.note.NoteBody.TheVariants as notes

-- the offset of the row at the place
abbrev pub offset_at : Network → ℕ → ℕ
offset_at network place = option_map_or (λ row. amount row.offset) (slice_get network.row place) 0

-- a frame that the device gave to the link with this record leaves at the time: how long the way held it, and how much
-- of that the device's clock measured
abbrev pub held_ground : Scenario → DeviceId → LinkId → ℕ → Option Happening → Ground
held_ground s device link t None = Untold
held_ground s device link t (Some giving) =
    Held (hold_at s link (way_from s.network device link) (time_of giving))
    (s.reading device t - s.reading device (time_of giving))

-- a frame of the row at the place is dispatched in the cycle: the local value that the clock came to, the row, its
-- offset and the cycle
abbrev pub dispatch_ground : Network → ℕ → Option ℕ → Ground
dispatch_ground network cycle None = Untold
dispatch_ground network cycle (Some place) =
    Dispatched (cycle * amount network.cycle + offset_at network place) place (offset_at network place) cycle

-- where in its cycle the local clock of the device stands when something comes to it at the time: after the records of
-- earlier times
abbrev pub position_at : Scenario → List Happening → DeviceId → ℕ → ℤ
position_at s hs device t = offset_in_cycle s.network (clock_of (standpoint s hs device t))

-- something comes at the position to a device that takes it between these places of its cycle
abbrev pub places_ground : ℤ → Places → Ground
places_ground at places = Window at places.from places.to

-- a frame of the row at the place arrives at the position: where in the device's cycle it may
abbrev pub window_ground : Network → ℤ → Option ℕ → Ground
window_ground network at None = Untold
window_ground network at (Some place) =
    option_map_or (λ entry. places_ground at (window_of network entry))
    (option_and_then (entry_of network) (slice_get network.row place)) Untold

-- in which cycle of its local clock something comes to the device at the time: after the records of earlier times
abbrev pub cycle_before : Scenario → List Happening → DeviceId → ℕ → ℕ
cycle_before s hs device t = cycle_at s.network (clock_of (standpoint s hs device t))

-- the row, with its virtual link and its link, by which the time-triggered frame of this record comes to the device by
-- the link
abbrev pub entry_given : Network → DeviceId → LinkId → Option Happening → Option Entry
entry_given network device link giving =
    option_and_then (λ g. entry_entering network device link (field 4 2 g.octets)) giving

-- a frame of this entry comes to the device at the time, before its window or behind it, or in a cycle without one: the
-- cycle and the place in which it comes, and between which places the device takes it
abbrev pub beside_ground : Scenario → List Happening → DeviceId → ℕ → Option Entry → Ground
beside_ground s hs device t None = Untold
beside_ground s hs device t (Some entry) =
    let places = window_of s.network entry in
    Missed (cycle_before s hs device t) (position_at s hs device t) places.from places.to

-- a frame of this entry comes to the device so at the record's time, and is dropped with this record, since the one of
-- the cycle was taken: the cycle, and the last record before that of one which came before it
abbrev pub repeat_ground : Scenario → List Happening → Happening → DeviceId → LinkId → ℕ → Option Entry → Ground
repeat_ground s hs h device link cause None = Untold
repeat_ground s hs h device link cause (Some entry) =
    let vl = entry.row.vl in
    let coming : Coming = record { device = device; vl = vl; time = time_of h; link = link; cause = cause } in
    Taken (cycle_before s hs device (time_of h))
    (last_sought s.network (Taking coming) (records_before (place_of h) hs))

-- so many octets come as a frame of this entry: how many, and how many its virtual link has
abbrev pub length_ground : ℕ → Option Entry → Ground
length_ground size None = Untold
length_ground size (Some entry) = Length size entry.vl.length

-- the frame of this record is of no virtual link that comes to a device by a link: its marker, that of the network, and
-- its id
abbrev pub unknown_ground : Network → Option Happening → Ground
unknown_ground network None = Untold
unknown_ground network (Some giving) = Unknown (field 0 4 giving.octets) network.marker (field 4 2 giving.octets)

-- something is dropped with this record by the device, which has no common time: its state, and the last record before
-- by which it came to it
abbrev pub unsynchronised_ground : Scenario → List Happening → Happening → DeviceId → Ground
unsynchronised_ground s hs h device =
    Unsynchronised (state_before s hs device (time_of h))
    (last_sought s.network (Turning device (time_of h)) (records_before (place_of h) hs))

-- a frame comes to the device where its local clock shows this, and a relay's gate is shut: how far beyond the opening
-- of the gate that is, and up to where the gate is open
abbrev pub gate_ground : Network → DeviceId → ℤ → Ground
gate_ground network device value =
    if is_relay network device
    then Gate (offset_in_cycle network (value +ℤ pos (2 * amount network.precision)))
    (amount network.correction + 2 * amount network.precision)
    else Untold

-- the frame of this record is dropped with the record of the device for the reason
abbrev pub dropped_ground : Scenario → List Happening → Happening → DeviceId → LinkId → ℕ → Option Happening → Reason
    → Ground
dropped_ground s hs h device link cause giving reasons.Early =
    beside_ground s hs device (time_of h) (entry_given s.network device link giving)
dropped_ground s hs h device link cause giving reasons.Late =
    beside_ground s hs device (time_of h) (entry_given s.network device link giving)
dropped_ground s hs h device link cause giving reasons.Repeat =
    repeat_ground s hs h device link cause (entry_given s.network device link giving)
dropped_ground s hs h device link cause giving reasons.Length =
    length_ground (option_map_or (λ g. length g.octets) giving 0) (entry_given s.network device link giving)
dropped_ground s hs h device link cause giving reasons.Unknown = unknown_ground s.network giving
dropped_ground s hs h device link cause giving reasons.Unsynchronised = unsynchronised_ground s hs h device
dropped_ground s hs h device link cause giving reasons.Gate =
    gate_ground s.network device (clock_of (standpoint s hs device (time_of h)))
dropped_ground s hs h device link cause giving other = Untold

-- does a device judge a frame so by its schedule?
abbrev pub is_by_schedule : Judgement → Bool
is_by_schedule Within = true
is_by_schedule Outside = true
is_by_schedule other = false

-- a device with this adjustment judges a frame of the cycle by its schedule at the point: what its local clock shows
-- there, beyond what it expects of the cycle's frame, and how much that may be
abbrev pub heard_ground : Network → DeviceId → ℤ → ℕ → Units → Ground
heard_ground network device adjustment cycle point =
    let expected = expected_at (plan_of network device) cycle in
    Heard point adjustment expected ((point.0 +ℤ adjustment) -ℤ expected) (amount network.precision)

-- the adjustment with which the device judges the frame of a permanence: after the records before that
abbrev pub hearing_adjustment : Scenario → List Happening → DeviceId → Happening → ℤ
hearing_adjustment s hs device h = (adjustment_at_hearing s (records_before (place_of h) hs) device (time_of h)).0

-- the ground of a permanence that its device judges by its schedule
abbrev pub scheduled_ground : Scenario → List Happening → DeviceId → Units → Happening → Ground
scheduled_ground s hs device point h =
    heard_ground s.network device (hearing_adjustment s hs device h) (cycle_in h) point

-- does a compression master judge a frame so by what it has collected?
abbrev pub is_collected : Judgement → Bool
is_collected Opened = true
is_collected Joined = true
is_collected Repeat = true
is_collected other = false

-- the frame of the record is permanent at the device and judged so
abbrev pub permanent_ground : Scenario → List Happening → DeviceId → Units → Judgement → Happening → Ground
permanent_ground s hs device point verdict h =
    if is_by_schedule verdict then scheduled_ground s hs device point h
    else (if is_collected verdict then collected_ground s.network hs device h else Untold)

-- the record is that of a state of the device, to which it comes so
abbrev pub state_ground : Scenario → List Happening → Happening → DeviceId → Why → Ground
state_ground s hs h device why = if is_clique why then clique_ground s hs h device else Untold

-- the frame meets a cut way when the device gives it to the link: the record before that cut it
abbrev pub lost_ground : Network → List Happening → Happening → DeviceId → LinkId → Ground
lost_ground network hs h device link =
    CutBy (cut_by link (way_from network device link) (records_before (place_of h) hs))

-- the ground of a record of this body: the line of the trace that has the event; the beginning of the cycle, which the
-- clock of a master came to; how long a frame was held; a frame's transparent clock, and the greatest that is taken;
-- the row of a dispatch; what a clock shows at a point against what it expects, or what was collected before; where a
-- collection opened, and its middle; what both channels say to a correction; what both told where a device comes to a
-- clique; the record of the event that cut the way; the position and the window of a frame that is taken; what a
-- dropped frame was judged by; what a clock reads
abbrev pub ground_by : Scenario → List Happening → Happening → NoteBody → Ground
ground_by s hs h (notes.Event line what) = Line line
ground_by s hs h (notes.Sent device cycle) = Local (cycle * amount s.network.cycle)
ground_by s hs h (notes.Left device link cause clock) = held_ground s device link (time_of h) (numbered hs cause)
ground_by s hs h (notes.Arrived device link cause clock) = Clock clock (amount s.network.dmax)
ground_by s hs h (notes.TtSent device link cause vl cycle) = dispatch_ground s.network cycle (row_of s.network vl link)
ground_by s hs h (notes.Accepted device link cause vl cycle) =
    window_ground s.network (position_at s hs device (time_of h)) (row_of s.network vl link)
ground_by s hs h (notes.Delivered device link cause vl cycle) =
    window_ground s.network (position_at s hs device (time_of h)) (row_of s.network vl link)
ground_by s hs h (notes.Dropped device link cause reason) =
    dropped_ground s hs h device link cause (numbered hs cause) reason
ground_by s hs h (notes.Compressed device opened at cycle members verdict) = sent_ground s.network hs h device opened at
ground_by s hs h (notes.Corrected device cycle by adjustment) = corrected_ground s hs h device cycle
ground_by s hs h (notes.State device state cause why) = state_ground s hs h device why
ground_by s hs h (notes.Lost device link cause) = lost_ground s.network hs h device link
ground_by s hs h (notes.Permanent device link cause point verdict) = permanent_ground s hs device point verdict h
ground_by s hs h (notes.Clock device reading adjustment state) = Reading reading

-- the ground of a record among these
abbrev pub ground_of : Scenario → List Happening → Happening → Ground
ground_of s hs h = ground_by s hs h h.note.body
