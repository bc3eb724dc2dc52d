-- The rows by which time-triggered frames enter devices.
use Rattle.std.specs.{BTreeMap.{BTreeMap, get}, Ordering.{nat_cmp, ordering_then}, declared.cmp.Ordering.Ordering}
use Rattle.std.specs.{List.All, Option.option_map_or}
use Rattle.std.specs.Prelude.{◌%◌, ◌&&◌, ◌==◌, ◌||◌, ◌∷◌, ◌≡◌, ◌≤◌, Bool, Err, IsSome, List, Ok, Option, Result, []}
use Rattle.std.specs.Prelude.{false, find, int_lt, length, nat_le, not, option_and_then, option_map, ℕ, ℤ}
use Rattle.net_plan.specs.declared.{ids.{DeviceId.DeviceId, LinkId.LinkId, VlId.VlId}, network.Network.Network}
use Rattle.net_plan.specs.{Places.link_at, declared.tables.{Link.Link, Row.Row, Way.{Way, TheVariants.{Down, Up}}}}
use Rattle.run_law.specs.{declared.judgement.Reason.Reason, device.Standpoints.{Standpoint, first_reason}}
use Rattle.run_law.specs.scenario.Ways.{is_way}
use Rattle.run_law.specs.timed.Arrivals.{entry_of, is_row_with, is_taken_in, row_fault, taken_or_fault, timed_arrival}
use Rattle.schedule_tables.specs.{Windows.window_of, declared.entry.Entry.Entry}
use Rattle.device_rules.specs.declared.entrances.{EnteringRow.EnteringRow, Entrance.Entrance, Entrances.Entrances}
use Rattle.device_rules.specs.declared.entrances.Which.{Which, TheVariants.{Into, On}}
use Rattle.run_law.specs.declared.judgement.Reason.TheVariants as reasons
use Rattle.run_law.specs.declared.steps.Arrival.TheVariants as arrivals

-- what is kept of an entry
abbrev pub entering_by : Network → Entry → EnteringRow
entering_by network entry = record {
  vl = entry.row.vl;
  length = entry.vl.length;
  period = entry.vl.period;
  phase = entry.vl.phase;
  window = window_of network entry;
}

-- entrances are ordered by the link, then by the id
abbrev pub entrance_cmp : Entrance → Entrance → Ordering
entrance_cmp a b = ordering_then (nat_cmp a.link.0 b.link.0) (nat_cmp a.id b.id)

-- by which a frame of the entry enters
abbrev pub entrance_of : Entry → Entrance
entrance_of entry = record { link = entry.row.link; id = entry.vl.id }

-- does what goes this way of the link come to the device?
abbrev pub comes_by : Way → Link → DeviceId → Bool
comes_by Up link device = link.parent.0 == device.0
comes_by Down link device = not (link.parent.0 == device.0) && link.child.0 == device.0

-- is the row one of these?
abbrev pub is_of : Network → Which → Row → Bool
is_of network (On way) row = is_way way row.way
is_of network (Into device) row = option_map_or (λ link. comes_by row.way link device) (link_at network row.link) false

-- do the frames of the row come by the entrance?
abbrev pub is_by : Network → Entrance → Row → Bool
is_by network entrance row = entrance.link.0 == row.link.0 && is_row_with network entrance.id row

-- the first of these rows whose frames come by the entrance
abbrev pub first_entering : Network → Which → List Row → Entrance → Option Entry
first_entering network which rows entrance =
    option_and_then (entry_of network) (find (λ row. is_of network which row && is_by network entrance row) rows)

-- the map has what is kept of the first of these rows, for each entrance
abbrev pub AreRows : Network → Which → List Row → BTreeMap Entrance EnteringRow → Type 0
AreRows network which rows kept =
    (entrance : Entrance) → get entrance_cmp kept entrance
    ≡ option_map (entering_by network) (first_entering network which rows entrance)

-- these are the rows of the network by which frames enter, on both ways of each link
pub record AreEntrances (network : Network) (entrances : Entrances) : Type 0 where
  pub up : AreRows network (On Up) network.row entrances.up
  pub down : AreRows network (On Down) network.row entrances.down

-- each of these rows has an entry
abbrev pub HaveEntries : Network → List Row → Type 0
HaveEntries network rows = All (λ row. IsSome (entry_of network row)) rows

-- a frame can be judged by the row: its virtual link has a period
abbrev pub HasPeriod : EnteringRow → Type 0
HasPeriod row = 1 ≤ row.period

-- a frame of these octets that arrives is one of this row, by which it is judged, or is dropped for this reason.
-- `last` has the cycle in which the device took the last frame of each virtual link
abbrev pub IsEnteredSo : Network → DeviceId → LinkId → Standpoint → List ℕ → Result EnteringRow Reason → Type 0
IsEnteredSo network device link at octets (Ok row) =
    (entry : Entry) × (row ≡ entering_by network entry)
    × ((last : VlId → Option ℕ) → timed_arrival network device link at octets last
    ≡ taken_or_fault network device at entry (row_fault network at entry (length octets) (last row.vl)))
IsEnteredSo network device link at octets (Err reason) =
    (last : VlId → Option ℕ) → timed_arrival network device link at octets last ≡ arrivals.Dropped reason

-- why a frame of the row is dropped, if it is: the first reason in this order
abbrev pub fault_of : EnteringRow → ℕ → ℕ → ℤ → Option ℕ → Option Reason
fault_of row size cycle place last =
    first_reason (
    (not (size == row.length), reasons.Length)
    ∷ (not (nat_le 1 cycle && cycle % row.period == row.phase) || int_lt place row.window.from.0, reasons.Early)
    ∷ (int_lt row.window.to.0 place, reasons.Late)
    ∷ (is_taken_in cycle last, reasons.Repeat)
    ∷ [])
