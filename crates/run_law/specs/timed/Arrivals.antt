-- How an arriving time-triggered frame is judged.
use Rattle.std.specs.Option.{option_map_or}
use Rattle.std.specs.Prelude.{if◌then◌else◌, ◌%◌, ◌&&◌, ◌==◌, ◌||◌, ◌∷◌, Bool, List, None, Option, Some, [], false}
use Rattle.std.specs.Prelude.{find, int_lt, length, nat_le, nat_lt, not, option_and_then, option_map, slice_get, ℕ}
use Rattle.net_plan.specs.{Places.link_at, declared.ids.{DeviceId.DeviceId, LinkId.LinkId, VlId.VlId}}
use Rattle.net_plan.specs.declared.{network.Network.Network, tables.{Row.Row, VirtualLink.VirtualLink}}
use Rattle.pcf_codec.specs.{EtherType.least_type, Fields.field}
use Rattle.schedule_tables.specs.{Windows.window_of, declared.entry.Entry.Entry}
use Rattle.run_law.specs.declared.{judgement.Reason.Reason, steps.Arrival.Arrival}
use Rattle.run_law.specs.declared.steps.Arrival.TheVariants.{Accepted, Delivered, Dropped}
use Rattle.run_law.specs.device.Standpoints.{Standpoint, clock_of, cycle_at, first_reason, offset_in_cycle}
use Rattle.run_law.specs.{device.States.is_synchronised, scenario.{Devices.is_end, Ways.{is_way_of, way_to}}}
use Rattle.run_law.specs.declared.judgement.Reason.TheVariants as reasons

-- does the virtual link occur in the cycle?
abbrev pub occurs_in : VirtualLink → ℕ → Bool
occurs_in vl cycle = nat_le 1 cycle && cycle % vl.period == vl.phase

-- is the row's virtual link the one with this id in the frames?
abbrev pub is_row_with : Network → ℕ → Row → Bool
is_row_with network id row = option_map_or (λ vl. vl.id == id) (slice_get network.vl row.vl.0) false

-- the row by which a frame with this id enters the device by the link
abbrev pub row_entering : Network → DeviceId → LinkId → ℕ → Option Row
row_entering network device link id =
    find (λ row. is_way_of link (way_to network device link) row.link row.way && is_row_with network id row) network.row

-- the row with its virtual link and its link
abbrev pub entry_of : Network → Row → Option Entry
entry_of network row =
    option_and_then (λ vl. option_map (λ link. record { row = row; vl = vl; link = link }) (link_at network row.link))
    (slice_get network.vl row.vl.0)

-- the same of the row by which the frame enters
abbrev pub entry_entering : Network → DeviceId → LinkId → ℕ → Option Entry
entry_entering network device link id = option_and_then (entry_of network) (row_entering network device link id)

-- was the last frame of the virtual link taken in this cycle?
abbrev pub is_taken_in : ℕ → Option ℕ → Bool
is_taken_in cycle None = false
is_taken_in cycle (Some last) = last == cycle

-- why a frame of this row is dropped, if it is: the first reason in this order. `last` is the cycle in which the
-- device took the last frame of the virtual link
abbrev pub row_fault : Network → Standpoint → Entry → ℕ → Option ℕ → Option Reason
row_fault network at entry size last =
    let cycle = cycle_at network (clock_of at) in
    let place = offset_in_cycle network (clock_of at) in
    first_reason (
    (not (size == entry.vl.length), reasons.Length)
    ∷ (not (occurs_in entry.vl cycle) || int_lt place (window_of network entry).from.0, reasons.Early)
    ∷ (int_lt (window_of network entry).to.0 place, reasons.Late)
    ∷ (is_taken_in cycle last, reasons.Repeat)
    ∷ [])

-- why any frame is dropped before its row is looked for, if it is
abbrev pub octets_fault : Network → Standpoint → List ℕ → Option Reason
octets_fault network at octets =
    first_reason (
    (not at.takes_part, reasons.Off)
    ∷ (nat_lt (field 12 2 octets) least_type, reasons.RefusedEtherType)
    ∷ (not (is_synchronised at.state), reasons.Unsynchronised)
    ∷ (not (field 0 4 octets == network.marker), reasons.Unknown)
    ∷ [])

-- the device takes a frame of the virtual link in this cycle: an end system or a switch
abbrev pub taken_by : Network → DeviceId → VlId → ℕ → Arrival
taken_by network device vl cycle = if is_end network device then Delivered vl cycle else Accepted vl cycle

-- what becomes of a frame of this row with this fault, or with none
abbrev pub taken_or_fault : Network → DeviceId → Standpoint → Entry → Option Reason → Arrival
taken_or_fault network device at entry (Some reason) = Dropped reason
taken_or_fault network device at entry None = taken_by network device entry.row.vl (cycle_at network (clock_of at))

-- what becomes of a frame of so many octets that is one of this row, or of none
abbrev pub entry_arrival : Network → DeviceId → Standpoint → ℕ → (VlId → Option ℕ) → Option Entry → Arrival
entry_arrival network device at size last None = Dropped reasons.Unknown
entry_arrival network device at size last (Some entry) =
    taken_or_fault network device at entry (row_fault network at entry size (last entry.row.vl))

-- what becomes of a frame with this fault, or with none
abbrev pub octets_or_fault : Network → DeviceId → LinkId → Standpoint → List ℕ → (VlId → Option ℕ) → Option Reason
    → Arrival
octets_or_fault network device link at octets last (Some reason) = Dropped reason
octets_or_fault network device link at octets last None =
    entry_arrival network device at (length octets) last (entry_entering network device link (field 4 2 octets))

-- what becomes of a frame that is no control frame and arrives at the device by the link; `last` has the cycle in
-- which the device took the last frame of each virtual link
abbrev pub timed_arrival : Network → DeviceId → LinkId → Standpoint → List ℕ → (VlId → Option ℕ) → Arrival
timed_arrival network device link at octets last =
    octets_or_fault network device link at octets last (octets_fault network at octets)
