use Rattle.audit_law.proofs.events_lemmas.Clocks.{first_of_last, last_readable, left_of, rising, set_last_at}
use Rattle.audit_law.{specs.events.Settings.{change_to, later_than, value_at}}
use Rattle.audit_law.specs.events.Clocks.{IsReadable}
use Rattle.std.{proofs.Common.{ap, arith, subst, sym}}
use Rattle.audit_law.proofs.events.clocks.last_short.Goals as goal

pub count_short-count-requires-clause-each : goal.count_short-count-requires-clause-each
count_short-count-requires-clause-each c =
    let s = c.args.clocks.now in
    let clocks = c.requires.clocks in
    rw (c.after-later.ensures clocks.in_order) (left_of s.initial s.changes.items c.args.from clocks).each

pub count_short-count-requires-clause-rising : goal.count_short-count-requires-clause-rising
count_short-count-requires-clause-rising c =
    let s = c.args.clocks.now in
    let clocks = c.requires.clocks in
    let from = c.args.from in
    let changes = s.changes.items in
    rw (c.after-later.ensures clocks.in_order) (rising (value_at s.initial changes from) from (later_than from changes)
    (left_of s.initial changes from clocks))

pub returns-then-count-eq0-clause-readable : goal.returns-then-count-eq0-clause-readable
returns-then-count-eq0-clause-readable c =
    let s = c.args.clocks.now in
    let clocks = c.requires.clocks in
    rw (c.at.ensures clocks.in_order) (last_readable s.initial s.changes.items c.args.from 0 clocks c.requires.limit
    (omega arith))

pub returns-then-count-eq0-clause-same : goal.returns-then-count-eq0-clause-same
returns-then-count-eq0-clause-same c =
    let s = c.args.clocks.now in
    let clocks = c.requires.clocks in
    let rest = c.after-later.ensures clocks.in_order in
    let goal = c.args.goal.0 in
    let none = c.if-count-eq0.true in
    first_of_last s.initial s.changes.items c.args.from goal 0 clocks (omega arith)
    (rw none at (rw rest at c.count_short-count.ensures.part))
    (change_to c.args.from c.at.result)
    (ap (change_to c.args.from) (c.at.ensures clocks.in_order))

pub returns-else-count-eq0-clause-readable : goal.returns-else-count-eq0-clause-readable
returns-else-count-eq0-clause-readable c =
    let s = c.args.clocks.now in
    let clocks = c.requires.clocks in
    let from = c.args.from in
    let first = change_to from (value_at s.initial s.changes.items from) in
    let rest = c.after-later.ensures clocks.in_order in
    let count = c.count_short-count.result in
    let bound = rw rest at c.count_short-count.ensures.bound in
    let change = c.index-later-count.result in
    subst IsReadable
    (sym (set_last_at first change (later_than from s.changes.items) count bound c.if-count-eq0.false
    (rw rest at c.index-later-count.is)))
    (last_readable s.initial s.changes.items from count clocks c.requires.limit bound)

pub returns-else-count-eq0-clause-same : goal.returns-else-count-eq0-clause-same
returns-else-count-eq0-clause-same c =
    let s = c.args.clocks.now in
    let clocks = c.requires.clocks in
    let from = c.args.from in
    let goal = c.args.goal.0 in
    let later = later_than from s.changes.items in
    let first = change_to from (value_at s.initial s.changes.items from) in
    let rest = c.after-later.ensures clocks.in_order in
    let count = c.count_short-count.result in
    let bound = rw rest at c.count_short-count.ensures.bound in
    let change = c.index-later-count.result in
    first_of_last s.initial s.changes.items from goal count clocks bound
    (rw rest at c.count_short-count.ensures.part) change
    (set_last_at first change later count bound c.if-count-eq0.false
    (rw rest at c.index-later-count.is))
