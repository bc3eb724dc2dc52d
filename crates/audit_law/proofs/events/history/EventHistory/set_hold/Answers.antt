use Rattle.audit_law.proofs.events_lemmas.{Histories.{hold_set_to, no_devices, same_way}}
use Rattle.audit_law.proofs.events_lemmas.{Keeping.{match_map, remembers_more, remembers_same}}
use Rattle.{audit_law.specs.events.Settings.change_to, std.{proofs.lemmas.Option.slice_get_read}}
use Rattle.{std.proofs.Common.{◌++◌, ◌∙◌, ◌∷◌, [], ap, length, refl, sym}, tte_units.{proofs.general_lemmas.Lists.set_length, specs.Amount.amount}}
use Rattle.net_plan.specs.declared.event.What.TheVariants as events
use Rattle.audit_law.proofs.events.history.EventHistory.set_hold.Goals as goal

pub returns-in-Some : goal.returns-in-Some
returns-in-Some c = λ event set what value time begun network all h may.
    let old = c.args.self.now in
    let ways = old.ways.items in
    let told = c.in-Some.told.now in
    let place = c.way_place.result in
    let item = c.in-Some.ensures.item in
    let at = slice_get_read ways (length ways) place told refl item.3.0 item.1 in
    match_map c.set.result _ _ _ _
    (λ x more. remembers_more _ h may begun (set_length ways place _)
    (hold_set_to network all event c.args.link c.args.way set place ways told c.set.new.self h.ways c.way_place.ensures at what
    c.set.ensures.initial (more ∙ ap (λ ch. told.hold.changes.items ++ ch ∷ []) (ap (λ t. change_to t c.args.hold) (sym time)
    ∙ ap (change_to (amount event.time)) (sym value)))) refl
    (no_devices network all event (events.Hold c.args.link c.args.way set) old.devices.items what (λ d. refl) (λ d. refl) (λ d. refl) h.devices))
    (λ x same. remembers_same _ h (set_length ways place _)
    (same_way network all c.args.link c.args.way place ways told _ h.ways c.way_place.ensures at refl refl c.set.ensures.initial same refl refl) refl h.devices)
    c.set.ensures.changes
