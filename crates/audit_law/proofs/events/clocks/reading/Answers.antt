use Rattle.std.proofs.{Common.{◌≤◌, arith}, lemmas.Int.ints}
use Rattle.audit_law.proofs.events_lemmas.Clocks.{value_ready}
use Rattle.audit_law.proofs.events.clocks.reading.Goals as goal

pub read-requires-clause-stepped : goal.read-requires-clause-stepped
read-requires-clause-stepped c =
    let clocks = c.requires.clocks in
    let s = c.args.clocks.now in
    let begins = clocks.begins in
    let ready = value_ready s.initial s.changes.items c.args.time (omega arith) clocks.each in
    let at : c.at-clock.result.at ≤ c.args.time = rw (c.at-clock.ensures clocks.in_order) ready in
    let whole = c.from_amount.ensures.whole in
    omega (arith, ints)
