use Rattle.schedule_checker.proofs.Elements.{entry_read, goes_once}
use Rattle.schedule_checker.proofs.routes.goes_once_by_link.Goals as goal

pub returns : goal.returns
returns c =
    let n = c.args.network.now in
    let es = c.args.entries.now in
    let e = c.index-entries-place.result in
    goes_once c.is_new_by_link.result c.requires.entries c.entries_law.ensures.one
    (entry_read n es c.args.place e c.requires.entries c.requires.place c.index-entries-place.is) c.is_new_by_link.ensures
