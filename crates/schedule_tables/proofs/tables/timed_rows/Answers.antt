use Rattle.schedule_tables.proofs.SlotLemmas.{rows_more}
use Rattle.schedule_tables.proofs.tables.timed_rows.Goals as goal

pub loop-place-preserved : goal.loop-place-preserved
loop-place-preserved c =
    rw c.in_ok-push.ensures.items (rows_more c.loop-place.invariant
    c.timed_row-row.ensures)
