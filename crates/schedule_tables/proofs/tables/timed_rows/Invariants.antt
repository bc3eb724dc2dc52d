use Rattle.schedule_tables.specs.TablesOf.{AreTimedRows}
use Rattle.schedule_tables.proofs.tables.timed_rows.Given as goal

abbrev pub invariant-loop-place : goal.invariant-loop-place
invariant-loop-place l = AreTimedRows l.network l.place l.rows.items
