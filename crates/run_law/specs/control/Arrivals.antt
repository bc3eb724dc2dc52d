-- How an arriving protocol control frame is judged.
use Rattle.std.specs.{Option.option_map_or, Prelude.{false, if◌then◌else◌, int_lt, nat_lt, not, pos, true, ℕ}}
use Rattle.std.specs.Prelude.{◌&&◌, ◌*◌, ◌+ℤ◌, ◌+◌, ◌==◌, ◌^◌, ◌∷◌, Bool, Err, None, Ok, Option, Result, Some, []}
use Rattle.{drift_clock.specs.transparent.Points.point_of, pcf_codec.specs.declared.refusal.PcfRefusal.PcfRefusal}
use Rattle.{net_plan.specs.{Places.link_at, declared.ids.LinkId.LinkId}, tte_units.specs.declared.units.Units.Units}
use Rattle.net_plan.specs.declared.{ids.DeviceId.DeviceId, network.Network.Network, tables.Way.TheVariants.{Down, Up}}
use Rattle.run_law.specs.declared.judgement.Reason.TheVariants.{ColdStart, Domain, Gate, Member, Off, Old}
use Rattle.run_law.specs.declared.judgement.Reason.TheVariants.{RefusedEtherType, RefusedKind, RefusedLength}
use Rattle.run_law.specs.{declared.judgement.Reason.{Reason, TheVariants.RefusedReserved}, scenario.Ways.wire_of}
use Rattle.run_law.specs.declared.steps.Arrival.{Arrival, TheVariants.{Dropped, Passes, PassesAndWaits, Waits}}
use Rattle.run_law.specs.device.Standpoints.{Standpoint, clock_of, first_reason, offset_in_cycle}
use Rattle.run_law.specs.{device.States.is_synchronised, scenario.Devices.{is_end, is_parent_of, is_relay, member_of}}
use Rattle.{run_law.specs.records.Happenings.with_clock, tte_units.specs.{Amount.amount, declared.frames.pcf.Pcf.Pcf}}
use Rattle.tte_units.specs.declared.frames.{members.Members.Members, pcf.PcfKind.{PcfKind, TheVariants.Integration}}
use Rattle.pcf_codec.specs.declared.refusal.PcfRefusal.TheVariants as refusals

-- why octets that the decoder refuses are dropped
abbrev pub refused : PcfRefusal → Reason
refused (refusals.Length n) = RefusedLength n
refused refusals.EtherType = RefusedEtherType
refused (refusals.Reserved offset) = RefusedReserved offset
refused (refusals.Kind octet) = RefusedKind octet

-- is the frame one of a cold start? Only integration frames are used
abbrev pub is_cold_start : PcfKind → Bool
is_cold_start Integration = false
is_cold_start other = true

-- is the frame of another priority or domain?
abbrev pub is_of_other_domain : Network → Pcf → Bool
is_of_other_domain network frame = not (frame.priority == network.priority && frame.domain == network.domain)

-- are the members other than the master of this member number alone? They are where there is none
abbrev pub are_others : Option ℕ → Members → Bool
are_others None members = true
are_others (Some member) members = not (members.0 == 2 ^ member)

-- does the frame come to a switch from an end system whose bit is not its members?
abbrev pub is_of_other_member : Network → DeviceId → LinkId → Members → Bool
is_of_other_member network device link members =
    option_map_or (λ l. l.parent.0 == device.0 && is_end network l.child
    && are_others (member_of network l.child) members) (link_at network link) false

-- the frame's transparent clock at its arrival: the nominal delay of the wire is added
abbrev pub clock_on_arrival : Network → LinkId → Pcf → ℕ
clock_on_arrival network link frame = frame.clock + wire_of network link

-- is the gate of a synchronised relay shut? It is open in each cycle from before its start up to the correction
abbrev pub is_gate_shut : Network → DeviceId → Standpoint → Bool
is_gate_shut network device at =
    is_relay network device && is_synchronised at.state
    && int_lt (pos (amount network.correction + 2 * amount network.precision))
    (offset_in_cycle network (clock_of at +ℤ pos (2 * amount network.precision)))

-- why a frame that the decoder gave is dropped at its arrival, if it is: the first reason in this order
abbrev pub frame_fault : Network → DeviceId → LinkId → Standpoint → Pcf → Option Reason
frame_fault network device link at frame =
    first_reason (
    (not at.takes_part, Off)
    ∷ (is_cold_start frame.kind, ColdStart)
    ∷ (is_of_other_domain network frame, Domain)
    ∷ (is_of_other_member network device link frame.members, Member)
    ∷ (nat_lt (amount network.dmax) (clock_on_arrival network link frame), Old)
    ∷ (is_gate_shut network device at, Gate)
    ∷ [])

-- the permanence point of a frame that arrives with this transparent clock
abbrev pub point_on_arrival : Network → Standpoint → ℕ → Units
point_on_arrival network at clock = record { 0 = point_of (pos at.reading) clock network.dmax.0 }

-- what becomes of a frame that is not dropped: a relay passes it up, or down, and waits for what comes down; any
-- other device waits
abbrev pub frame_taken : Network → DeviceId → LinkId → Pcf → Units → Arrival
frame_taken network device link frame point =
    if is_relay network device
    then (if is_parent_of network device link then Passes frame Up else PassesAndWaits frame Down point)
    else Waits frame point

-- what becomes of a frame with this fault, or with none
abbrev pub frame_or_fault : Network → DeviceId → LinkId → Standpoint → Pcf → Option Reason → Arrival
frame_or_fault network device link at frame (Some reason) = Dropped reason
frame_or_fault network device link at frame None =
    let clock = clock_on_arrival network link frame in
    frame_taken network device link (with_clock clock frame) (point_on_arrival network at clock)

-- what becomes of a protocol control frame that arrives at the device by the link
abbrev pub control_arrival : Network → DeviceId → LinkId → Standpoint → Result Pcf PcfRefusal → Arrival
control_arrival network device link at (Err refusal) = Dropped (if at.takes_part then refused refusal else Off)
control_arrival network device link at (Ok frame) =
    frame_or_fault network device link at frame (frame_fault network device link at frame)
