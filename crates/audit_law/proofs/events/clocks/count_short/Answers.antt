use Rattle.audit_law.proofs.events_lemmas.Clocks.{halves_down, halves_up}
use Rattle.std.proofs.Common.{◌+◌, ◌-◌, ◌/◌, arith}
use Rattle.audit_law.proofs.events.clocks.count_short.Goals as goal

pub halves-preserved-then-is_short : goal.halves-preserved-then-is_short
halves-preserved-then-is_short c =
    let low = c.halves.low in
    let middle = low + (c.halves.high - low) / 2 in
    let more = c.halves-test.true in
    let change = c.index-changes-middle.result in
    halves_up middle change change c.requires.rising c.halves.invariant (omega arith)
    c.index-changes-middle.is (c.is_short.ensures.short c.if-is_short.true)

pub halves-preserved : goal.halves-preserved
halves-preserved c =
    let low = c.halves.low in
    let middle = low + (c.halves.high - low) / 2 in
    let more = c.halves-test.true in
    let change = c.index-changes-middle.result in
    halves_down middle change change c.requires.rising c.halves.invariant (omega arith) (omega arith)
    c.index-changes-middle.is (c.is_short.ensures.reached c.if-is_short.false)
