-- The rows by which frames are put on links.
use Rattle.std.specs.Prelude.{◌≡◌, ◌≤◌, List, ℕ}
use Rattle.{audit_sweep.specs.declared.records.dispatches.leaving.LeavingRow.LeavingRow, tte_units.specs.Amount.amount}
use Rattle.{net_plan.specs.declared.{ids.LinkId.LinkId, network.Network.Network}, run_law.specs.records.Order.IsIn}
use Rattle.schedule_tables.specs.{Entries.{IsEntry, source_of}, declared.entry.Entry.Entry}

-- what is kept of an entry
abbrev pub leaving_by : Entry → LeavingRow
leaving_by entry = record {
  device = source_of entry;
  vl = entry.row.vl;
  offset = amount entry.row.offset;
  period = entry.vl.period;
  phase = entry.vl.phase;
  sender = entry.vl.sender;
}

-- this is what is kept of a row that is one of the link
pub record IsRowOn (network : Network) (link : LinkId) (row : LeavingRow) : Type 0 where
  pub place : ℕ
  pub entry : Entry
  pub is : IsEntry network place entry
  pub on : entry.row.link ≡ link
  pub kept : row ≡ leaving_by entry

-- these are the rows of the network by which frames are put on the link
pub record AreRowsOn (network : Network) (link : LinkId) (rows : List LeavingRow) : Type 0 where
  pub sound : (row : LeavingRow) → IsIn row rows → IsRowOn network link row
  pub complete : (place : ℕ) (entry : Entry) → IsEntry network place entry → entry.row.link ≡ link
      → IsIn (leaving_by entry) rows

-- each row's virtual link has a period
abbrev pub HavePeriods : List LeavingRow → Type 0
HavePeriods rows = (row : LeavingRow) → IsIn row rows → 1 ≤ row.period
