use Rattle.std.proofs.Common.{◌≡◌, Some, arith, length, refl, rules}
use Rattle.audit_law.{proofs.events_lemmas.{Clocks.reach_of_value, Histories.{told_clocks, told_reads}}}
use Rattle.audit_law.{specs.events.{Clocks.clocks_reading, Readings.clock_reading}}
use Rattle.std.{proofs.lemmas.{Int.{ints, to_z-of_z}, Option.slice_get_read}, specs.{Int.w128, Prelude.slice_get}}
use Rattle.audit_law.proofs.events.history.EventHistory.reach.Goals as goal

pub returns-then-value-gt-MOST_SOUGHT : goal.returns-then-value-gt-MOST_SOUGHT
returns-then-value-gt-MOST_SOUGHT c = λ network all h has x after before.
    let reads = c.reading_law.ensures network all c.args.device h.range h.within h.begun in
    let limit = c.requires.limit in
    let most = reads.bound x (omega (arith, before, limit)) in
    let above = c.if-value-gt-MOST_SOUGHT.true in
    omega (arith, ints)

pub reach-requires-clause-clocks : goal.reach-requires-clause-clocks
reach-requires-clause-clocks c =
    let history = c.args.self.now in
    let told = c.in-Some.told.now in
    let place = c.args.device.0 in
    let found = c.in-Some.ensures.lookup in
    let at : slice_get history.devices.items place ≡ Some told =
    rw c.deref.ensures.value at (slice_get_read c.deref.result.now (length c.deref.result.now) place told refl
    found.3.0 found.1) in
    let some = c.requires.some in
    told_clocks some.0 some.1 history c.args.device some.2 (some.2.devices c.args.device told at)

pub returns-in-Some : goal.returns-in-Some
returns-in-Some c = λ network all h has.
    let history = c.args.self.now in
    let told = c.in-Some.told.now in
    let place = c.args.device.0 in
    let found = c.in-Some.ensures.lookup in
    let at : slice_get history.devices.items place ≡ Some told =
    rw c.deref.ensures.value at (slice_get_read c.deref.result.now (length c.deref.result.now) place told refl
    found.3.0 found.1) in
    reach_of_value (clocks_reading told.clock.initial told.clock.changes.items) (clock_reading network all c.args.device) c.args.from c.args.value
    c.goal_of.result.0 c.args.until c.reach.result
    (λ x. told_reads network all history c.args.device x h (h.devices c.args.device told at))
    (rw (to_z-of_z w128 c.args.value (search rules)) at c.goal_of.ensures.same)
    c.reach.ensures
