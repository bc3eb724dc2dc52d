-- The rows that a network has.
use Rattle.std.specs.Prelude.{◌≡◌, List, Some, length, slice_get, ℕ}
use Rattle.{lens_plan.specs.declared.places.offsets.Taken.Taken, net_plan.specs.declared.network.Network.Network}
use Rattle.schedule_tables.specs.{Entries.IsEntry, Windows.port_time, declared.entry.Entry.Entry}
use Rattle.tte_units.specs.Amount.{amount}

-- the row by its port, its cycles, its port time and its offset
abbrev pub taken_by : Entry → Taken
taken_by entry = record {
  slot = record {
    link = entry.row.link;
    way = entry.row.way;
    period = entry.vl.period;
    phase = entry.vl.phase;
    port = port_time entry;
  };
  offset = amount entry.row.offset;
}

-- these are the first rows of the network, in their order
pub record AreFirst (network : Network) (count : ℕ) (rows : List Taken) : Type 0 where
  pub counted : length rows ≡ count
  pub each : (place : ℕ) (row : Taken) → slice_get rows place ≡ Some row
      → (entry : Entry) × IsEntry network place entry × (row ≡ taken_by entry)

-- these are all rows of the network, in their order
abbrev pub AreThere : Network → List Taken → Type 0
AreThere network rows = AreFirst network (length network.row) rows
