use Rattle.std.proofs.lemmas.Int.{ints}
use Rattle.audit_law.proofs.events_lemmas.{Clocks.value_ready, Histories.{no_ways, rate_set, ready_at, same_device}}
use Rattle.audit_law.proofs.events_lemmas.{Keeping.{match_map, remembers_more, remembers_same}}
use Rattle.tte_units.proofs.general_lemmas.Lists.{set_length}
use Rattle.{audit_law.specs.events.Settings.{change_to, value_at}, drift_clock.specs.Segment.{Segment, stepped_segment}}
use Rattle.std.proofs.{Common.{◌++◌, ◌∙◌, ◌∷◌, ◌≤◌, [], ap, arith, length, refl, sym, unsigned_abs, ℕ}, lemmas.Option.slice_get_read}
use Rattle.net_plan.specs.declared.event.What.TheVariants as events
use Rattle.audit_law.proofs.events.history.EventHistory.set_rate.Goals as goal

pub rate-requires-clause-stepped : goal.rate-requires-clause-stepped
rate-requires-clause-stepped c =
    let told = c.in-Some.told.now in
    let devices = c.args.self.now.devices.items in
    let item = c.in-Some.ensures.item in
    let ready = ready_at devices c.args.device.0 c.args.time told item.3.0 item.1 c.requires.ready in
    let begins = ready.clocks.begins in
    let read = value_ready told.clock.initial told.clock.changes.items c.args.time (omega arith) ready.clocks.each in
    let at : c.at-clock.result.at ≤ c.args.time = rw (c.at-clock.ensures ready.clocks.in_order) read in
    let whole = c.from_amount.ensures.whole in
    omega (arith, ints)

pub returns-in-Some : goal.returns-in-Some
returns-in-Some c = λ event what time begun network all h may.
    let old = c.args.self.now in
    let devices = old.devices.items in
    let device = c.args.device in
    let told = c.in-Some.told.now in
    let item = c.in-Some.ensures.item in
    let at = slice_get_read devices (length devices) device.0 told refl item.3.0 item.1 in
    let ready = ready_at devices device.0 c.args.time told item.3.0 item.1 c.requires.ready in
    let before = told.clock.changes.items in
    let value = c.at-clock.ensures ready.clocks.in_order in
    let at_time : ℕ → Segment = λ t. stepped_segment (value_at told.clock.initial before t) t c.args.rate.0 in
    let stepped = c.rate.ensures
    ∙ ap (λ k. stepped_segment k (unsigned_abs c.from_amount.result.0) c.args.rate.0) value
    ∙ ap (λ n. stepped_segment (value_at told.clock.initial before c.args.time) (unsigned_abs n) c.args.rate.0) c.from_amount.ensures.whole in
    match_map c.set.result _ _ _ _
    (λ x more. remembers_more _ h may begun refl
    (no_ways network all event (events.Rate device c.args.rate) old.ways.items what (λ l w. refl) (λ l w. refl) (λ l w. refl) h.ways)
    (set_length devices device.0 _)
    (rate_set network all event device c.args.rate devices told c.set.new.self h.devices at what
    (rw time ready.later) c.set.ensures.initial
    (more ∙ ap (λ k. before ++ change_to c.args.time k ∷ []) stepped ∙ ap (λ t. before ++ change_to t (at_time t) ∷ []) (sym time))))
    (λ x same. remembers_same _ h refl h.ways (set_length devices device.0 _)
    (same_device network all device devices told c.set.new.self h.devices at c.set.ensures.initial same))
    c.set.ensures.changes
