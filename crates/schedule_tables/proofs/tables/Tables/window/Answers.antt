use Rattle.schedule_tables.proofs.SlotLemmas.{window_at}
use Rattle.schedule_tables.proofs.tables.Tables.window.Goals as goal

pub returns : goal.returns
returns c n entry tables is =
    window_at c.index.result.now tables.rows c.requires c.index.ensures is
