use Rattle.schedule_checker.proofs.{Elements.entry_read, WindowLemmas.ends_from_entry}
use Rattle.{std.{proofs.{Common.{arith}}}}
use Rattle.schedule_checker.proofs.timing.ends_in_cycle.Goals as goal

pub window_of-window-requires-clause-entry : goal.window_of-window-requires-clause-entry
window_of-window-requires-clause-entry c =
    let n = c.args.network.now in
    let entry = c.index-entries-place.result in
    c.entries_law.ensures.range n c.args.place entry c.requires.range (entry_read n c.args.entries.now c.args.place entry c.requires.entries c.requires.place
    c.index-entries-place.is)

pub returns : goal.returns
returns c =
    search (arith, entry_read, ends_from_entry)
