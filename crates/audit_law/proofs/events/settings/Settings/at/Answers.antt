use Rattle.std.{proofs.Common.{◌-◌, arith, length, sym}}
use Rattle.audit_law.proofs.events_lemmas.Clocks.{below, next_of, value_before, value_found}
use Rattle.audit_law.proofs.events.settings.Settings.at.Goals as goal

pub returns-then-count-eq0 : goal.returns-then-count-eq0
returns-then-count-eq0 g c = λ order.
    let part = c.count_up_to-count.ensures.part order in
    sym (value_before c.args.self.now.initial c.args.self.now.changes.items c.args.time
    (λ k d low high. part.1 k d (let e = c.if-count-eq0.true in omega arith) high))

pub returns-else-count-eq0 : goal.returns-else-count-eq0
returns-else-count-eq0 g c = λ order.
    let items = c.args.self.now.changes.items in
    let count = c.count_up_to-count.result in
    let part = c.count_up_to-count.ensures.part order in
    let bound = c.count_up_to-count.ensures.bound in
    let next = next_of count c.if-count-eq0.false in
    rw c.index.ensures
    (sym (value_found c.args.self.now.initial items c.args.time (count - 1) c.index.result.now
    (below count (length items) next bound)
    (rw next at part)))
