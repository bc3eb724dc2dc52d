use Rattle.schedule_tables.proofs.SlotLemmas.{in_range, one_entry}
use Rattle.schedule_tables.proofs.laws.entries_law.Goals as goal

pub returns : goal.returns
returns c = record { range = in_range; one = one_entry }
