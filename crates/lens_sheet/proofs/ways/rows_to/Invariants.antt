use Rattle.lens_sheet.specs.{Going.IsSomeEntry, Ways.IsWay}
use Rattle.schedule_tables.specs.{Entries.{IsEntryInRange, source_of}, declared.entry.Entry.Entry}
use Rattle.std.proofs.Common.{◌+◌, ◌^◌, ◌≡◌, ◌≤◌, List, length}
use Rattle.tte_units.specs.Amount.{amount}
use Rattle.lens_sheet.proofs.ways.rows_to.Given as goal

-- the rows from the one at hand on lead to the end of the entry's
abbrev pub invariant-rows : goal.invariant-rows
invariant-rows l = record {
  row : IsSomeEntry l.network l.at;
  range : IsEntryInRange l.network l.at;
  way : (before : List Entry) → IsWay l.network l.at.row.vl (source_of l.at) before
      → (whole : List Entry) × IsWay l.network l.entry.row.vl (source_of l.entry) whole × (length whole + 1 ≡ l.rows + length before);
  bound : l.rows + amount l.at.row.offset ≤ 1 + 2 ^ 40;
}

abbrev pub decreases-rows : goal.decreases-rows
decreases-rows l = amount l.at.row.offset
