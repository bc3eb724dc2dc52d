use Rattle.std.proofs.Common.{refl, take}
use Rattle.schedule_checker.proofs.Elements.{entry_ranges, entry_read, stands_apart}
use Rattle.schedule_checker.proofs.ports.stands_apart.Goals as goal

pub stands_apart_from-requires-clause-entries : goal.stands_apart_from-requires-clause-entries
stands_apart_from-requires-clause-entries c = entry_ranges c.args.network.now c.args.entries.now c.requires.entries c.entries_law.ensures.range c.requires.range

pub stands_apart_from-requires-clause-entry : goal.stands_apart_from-requires-clause-entry
stands_apart_from-requires-clause-entry c =
    let n = c.args.network.now in
    let e = c.index-entries-place.result in
    c.entries_law.ensures.range n c.args.place e c.requires.range (entry_read n c.args.entries.now c.args.place e c.requires.entries c.requires.place
    c.index-entries-place.is)

pub returns : goal.returns
returns c =
    let n = c.args.network.now in
    let es = c.args.entries.now in
    let e = c.index-entries-place.result in
    let at = entry_read n es c.args.place e c.requires.entries c.requires.place c.index-entries-place.is in
    stands_apart (take c.args.place es) c.stands_apart_from.result c.requires.entries
    c.entries_law.ensures.one at refl
    c.stands_apart_from.ensures
