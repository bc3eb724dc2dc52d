use Rattle.std.proofs.lemmas.Fn.{always_returns_same}
use Rattle.audit_law.proofs.events_lemmas.Clocks.{part_at, parted}
use Rattle.std.{proofs.Common.{nat_le, of_calls, rules}}
use Rattle.audit_law.proofs.events.settings.Settings.count_up_to.Goals as goal

pub returns-clause-part : goal.returns-clause-part
returns-clause-part g c = λ order.
    let time = c.args.time in
    part_at c.args.self.now.changes.items time c.partition_point.result
    (rw c.deref.ensures.value at (c.partition_point.ensures.partitioned (λ c. nat_le c.from time)
    (always_returns_same _ _ _ (λ a r f k. search (rules, of_calls)))
    (rw c.deref.ensures.value (parted c.args.self.now.changes.items time order))))
