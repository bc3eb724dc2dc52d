-- What may become of a frame that arrives, kind by kind.
use Rattle.drift_world.proofs.Words.{Bool, DeviceId, Down, LinkId, List, Network, None, Ok, Option, Pcf, Some, Units, Up, VlId, Way, false, field}
use Rattle.{drift_world.proofs.Words.{if◌then◌else◌, is_parent_of, length, true, with_clock, ℕ}, schedule_tables.specs.declared.entry.Entry.Entry}
use Rattle.run_law.specs.{control.Arrivals.{clock_on_arrival, control_arrival, frame_fault, frame_or_fault, point_on_arrival}, declared.steps.Arrival.Arrival}
use Rattle.run_law.specs.{declared.judgement.Reason.Reason, device.Standpoints.{Standpoint, clock_of, cycle_at}, scenario.Devices.{is_end, is_relay}}
use Rattle.run_law.specs.timed.Arrivals.{entry_arrival, entry_entering, octets_fault, octets_or_fault, row_fault, taken_or_fault, timed_arrival}
use Rattle.run_law.specs.declared.steps.Arrival.TheVariants as arrivals

-- the frame as it arrives
abbrev pub on_arrival : Network → LinkId → Pcf → Pcf
on_arrival network link frame = with_clock (clock_on_arrival network link frame) frame

-- it holds of all that may become of a control frame
pub record HoldsOfControl (P : Arrival → Type 0) (frame : Pcf) : Type 0 where
  pub dropped : (reason : Reason) → P (arrivals.Dropped reason)
  pub waits : (point : Units) → P (arrivals.Waits frame point)
  pub passes : (way : Way) → P (arrivals.Passes frame way)
  pub both : (way : Way) (point : Units) → P (arrivals.PassesAndWaits frame way point)

taken_so : (P : Arrival → Type 0) {frame : Pcf} (point : Units) (relay parent : Bool) → HoldsOfControl P frame → P
    (if relay then (if parent then arrivals.Passes frame Up else arrivals.PassesAndWaits frame Down point) else
    arrivals.Waits frame point)
taken_so P point true true h = h.passes Up
taken_so P point true false h = h.both Down point
taken_so P point false parent h = h.waits point

fault_so : (P : Arrival → Type 0) (network : Network) (device : DeviceId) (link : LinkId) (at : Standpoint) (frame : Pcf) (fault : Option Reason)
    → HoldsOfControl P (on_arrival network link frame) → P (frame_or_fault network device link at frame fault)
fault_so P network device link at frame (Some reason) h = h.dropped reason
fault_so P network device link at frame None h =
    taken_so P (point_on_arrival network at (clock_on_arrival network link frame)) (is_relay network device)
    (is_parent_of network device link) h

pub control_so : (P : Arrival → Type 0) (network : Network) (device : DeviceId) (link : LinkId) (at : Standpoint) (frame : Pcf)
    → HoldsOfControl P (on_arrival network link frame) → P (control_arrival network device link at (Ok frame))
control_so P network device link at frame h = fault_so P network device link at frame (frame_fault network device link at frame) h

-- and of another frame
pub record HoldsOfTimed (P : Arrival → Type 0) : Type 0 where
  pub dropped : (reason : Reason) → P (arrivals.Dropped reason)
  pub accepted : (vl : VlId) (cycle : ℕ) → P (arrivals.Accepted vl cycle)
  pub delivered : (vl : VlId) (cycle : ℕ) → P (arrivals.Delivered vl cycle)

by_so : (P : Arrival → Type 0) (vl : VlId) (cycle : ℕ) (end : Bool) → HoldsOfTimed P
    → P (if end then arrivals.Delivered vl cycle else arrivals.Accepted vl cycle)
by_so P vl cycle true h = h.delivered vl cycle
by_so P vl cycle false h = h.accepted vl cycle

row_so : (P : Arrival → Type 0) (network : Network) (device : DeviceId) (at : Standpoint) (entry : Entry) (fault : Option Reason) → HoldsOfTimed P
    → P (taken_or_fault network device at entry fault)
row_so P network device at entry (Some reason) h = h.dropped reason
row_so P network device at entry None h = by_so P entry.row.vl (cycle_at network (clock_of at)) (is_end network device) h

entry_so : (P : Arrival → Type 0) (network : Network) (device : DeviceId) (at : Standpoint) (size : ℕ) (last : VlId → Option ℕ) (entry : Option Entry)
    → HoldsOfTimed P → P (entry_arrival network device at size last entry)
entry_so P network device at size last None h = h.dropped _
entry_so P network device at size last (Some entry) h = row_so P network device at entry (row_fault network at entry size (last entry.row.vl)) h

octets_so : (P : Arrival → Type 0) (network : Network) (device : DeviceId) (link : LinkId) (at : Standpoint) (octets : List ℕ) (last : VlId → Option ℕ)
    (fault : Option Reason) → HoldsOfTimed P → P (octets_or_fault network device link at octets last fault)
octets_so P network device link at octets last (Some reason) h = h.dropped reason
octets_so P network device link at octets last None h =
    entry_so P network device at (length octets) last (entry_entering network device link (field 4 2 octets)) h

pub timed_so : (P : Arrival → Type 0) (network : Network) (device : DeviceId) (link : LinkId) (at : Standpoint) (octets : List ℕ) (last : VlId → Option ℕ)
    → HoldsOfTimed P → P (timed_arrival network device link at octets last)
timed_so P network device link at octets last h = octets_so P network device link at octets last (octets_fault network at octets) h
