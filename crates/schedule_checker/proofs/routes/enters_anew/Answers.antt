use Rattle.std.proofs.Common.{refl, rules, take}
use Rattle.schedule_checker.proofs.Elements.{enters_anew, enters_anew_back, entry_read}
use Rattle.schedule_checker.proofs.routes.enters_anew.Goals as goal
use Rattle.std.proofs.Common.{arith}

pub returns-then-ne : goal.returns-then-ne
returns-then-ne c =
    let es = c.args.entries.now in
    let place = c.args.place in
    let e = c.index-entries-place.result in
    let at = entry_read c.args.network.now es place e c.requires.entries c.requires.place c.index-entries-place.is in (
      λ yes. enters_anew (take place es) c.requires.entries
          c.entries_law.ensures.one at refl (search rules) (c.enters_none_again.ensures.0 yes),
      λ kept. c.enters_none_again.ensures.1 (enters_anew_back
          (take place es) c.requires.entries at refl kept),
    )

pub returns-else-ne : goal.returns-else-ne
returns-else-ne c =
    search (arith, entry_read)
