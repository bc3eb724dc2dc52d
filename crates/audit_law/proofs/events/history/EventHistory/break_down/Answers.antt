use Rattle.audit_law.proofs.events_lemmas.{Histories.{break_set, no_ways}, Keeping.remembers_more}
use Rattle.tte_units.proofs.general_lemmas.Lists.{set_length}
use Rattle.std.{proofs.{Common.{length, refl}, lemmas.Option.slice_get_read}}
use Rattle.net_plan.specs.declared.event.What.TheVariants as events
use Rattle.audit_law.proofs.events.history.EventHistory.break_down.Goals as goal

pub returns-in-Some : goal.returns-in-Some
returns-in-Some c = λ network all event h may what when begun.
    let old = c.args.self.now in
    let devices = old.devices.items in
    let told = c.in-Some.told.now in
    let item = c.in-Some.ensures.item in
    let at = slice_get_read devices (length devices) c.args.device.0 told refl item.3.0 item.1 in
    remembers_more _ h may begun refl
    (no_ways network all event (events.Break c.args.device) old.ways.items what (λ l w. refl) (λ l w. refl) (λ l w. refl) h.ways)
    (set_length devices c.args.device.0 _)
    (break_set network all event c.args.device c.args.time devices told h.devices at what when may.within)
