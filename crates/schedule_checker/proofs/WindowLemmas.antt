-- The end of a row's window, at the row's entry.
use Rattle.{net_plan.specs.declared.network.Network.Network, schedule_tables.specs.{Entries.{EntryIsOne, IsEntry}, declared.entry.Entry.Entry}}
use Rattle.{schedule_tables.specs.{Schedule.EndsInCycle, Windows.window_end}, std.proofs.Common.{◌*◌, ◌+◌, ◌≤◌, ℕ}, tte_units.specs.Amount.amount}

-- the rule speaks of the one entry
pub ends_from_entry : {n : Network} {place : ℕ} {entry : Entry} → EntryIsOne → IsEntry n place entry
    → window_end n entry + 4 * amount n.precision ≤ amount n.cycle → EndsInCycle n place
ends_from_entry {n} {place} {entry} one is ends other h =
    rw (one n place entry other is h) at ends
