use Rattle.schedule_checker.proofs.Elements.{entry_ranges, entry_read, in_time_of_sender, in_time_of_switch}
use Rattle.{std.proofs.{Common.{arith, rules}, lemmas.{Grind.common_steps, Int.ints}}}
use Rattle.schedule_checker.proofs.ports.comes_in_time.Goals as goal

pub comes_behind_all-requires-clause-entries : goal.comes_behind_all-requires-clause-entries
comes_behind_all-requires-clause-entries c = entry_ranges c.args.network.now c.args.entries.now c.requires.entries c.entries_law.ensures.range c.requires.range

pub comes_behind_all-requires-clause-entry : goal.comes_behind_all-requires-clause-entry
comes_behind_all-requires-clause-entry c =
    let n = c.args.network.now in
    let e = c.index-entries-place.result in
    c.entries_law.ensures.range n c.args.place e c.requires.range (entry_read n c.args.entries.now c.args.place e c.requires.entries c.requires.place
    c.index-entries-place.is)

pub returns-then-eq : goal.returns-then-eq
returns-then-eq c =
    let n = c.args.network.now in
    let e = c.index-entries-place.result in
    let at = entry_read n c.args.entries.now c.args.place e c.requires.entries c.requires.place c.index-entries-place.is in
    let ranges = c.requires.range in
    let offset = (c.entries_law.ensures.range n c.args.place e ranges at).row.offset in
    in_time_of_sender _ c.entries_law.ensures.one at (search rules)
    (grind (arith, common_steps, ints, ranges.tt_start))

pub returns-else-eq : goal.returns-else-eq
returns-else-eq c =
    let n = c.args.network.now in
    let es = c.args.entries.now in
    let e = c.index-entries-place.result in
    let at = entry_read n es c.args.place e c.requires.entries c.requires.place c.index-entries-place.is in
    in_time_of_switch c.comes_behind_all.result c.requires.entries
    c.entries_law.ensures.one at (search rules) c.comes_behind_all.ensures
