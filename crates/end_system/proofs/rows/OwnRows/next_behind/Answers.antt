use Rattle.end_system.proofs.{RowSearch.{device_is, next_next}, Words.refl}
use Rattle.end_system.proofs.rows.OwnRows.next_behind.Goals as goal

pub first_from-requires-clause-same : goal.first_from-requires-clause-same
first_from-requires-clause-same c = device_is c.args.last.slot c.requires.rows.3 c.requires.slot.there

pub returns-clause-next : goal.returns-clause-next
returns-clause-next c = λ network device s changed done is are same was.
    next_next network device c.args.own.now c.args.self.now s changed done
    c.args.adjustment {last = c.args.last} c.first_from.result is are same
    c.requires.slot was
    (record { first_is = refl; bound_is = refl }) c.first_from.ensures
