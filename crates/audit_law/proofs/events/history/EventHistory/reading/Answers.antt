use Rattle.std.{proofs.{Common.{◌∙◌, ◌≡◌, Some, length, refl}, lemmas.Option.slice_get_read}, specs.Prelude.slice_get}
use Rattle.audit_law.proofs.events_lemmas.Histories.{told_clocks, told_reads}
use Rattle.audit_law.proofs.events.history.EventHistory.reading.Goals as goal

pub reading-requires-clause-clocks : goal.reading-requires-clause-clocks
reading-requires-clause-clocks c =
    let history = c.args.self.now in
    let told = c.in-Some.told.now in
    let place = c.args.device.0 in
    let found = c.in-Some.ensures.lookup in
    let at : slice_get history.devices.items place ≡ Some told =
    rw c.deref.ensures.value at (slice_get_read c.deref.result.now (length c.deref.result.now) place told refl
    found.3.0 found.1) in
    let some = c.requires.some in
    told_clocks some.0 some.1 history c.args.device some.2 (some.2.devices c.args.device told at)

pub returns-in-Some : goal.returns-in-Some
returns-in-Some c = λ network all h has.
    let history = c.args.self.now in
    let told = c.in-Some.told.now in
    let place = c.args.device.0 in
    let found = c.in-Some.ensures.lookup in
    let at : slice_get history.devices.items place ≡ Some told =
    rw c.deref.ensures.value at (slice_get_read c.deref.result.now (length c.deref.result.now) place told refl
    found.3.0 found.1) in
    c.reading.ensures ∙ told_reads network all history c.args.device c.args.time h (h.devices c.args.device told at)
