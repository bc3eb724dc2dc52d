use Rattle.audit_law.{specs.events.Settings.change_to}
use Rattle.audit_law.proofs.events_lemmas.{Keeping.{match_map, remembers_more, remembers_same}}
use Rattle.audit_law.proofs.events_lemmas.Histories
use Histories.{cut_event, cut_has, cut_no_break, cut_no_step, cut_no_turn, cut_set_to, has_place, no_devices, same_way}
use Rattle.{net_plan.specs.Belonging.IsOfNetwork, std.{proofs.lemmas.Option.slice_get_read}, tte_units.specs.Amount.amount}
use Rattle.{std.proofs.Common.{◌++◌, ◌∙◌, ◌∷◌, [], ap, arith, length, refl, subst, sym}, tte_units.proofs.general_lemmas.Lists.set_length}
use Rattle.audit_law.proofs.events.history.EventHistory.set_cut.Goals as goal

pub returns-in-Some : goal.returns-in-Some
returns-in-Some c = λ event what time begun network all h may.
    let old = c.args.self.now in
    let ways = old.ways.items in
    let told = c.in-Some.told.now in
    let place = c.way_place.result in
    let item = c.in-Some.ensures.item in
    let at = slice_get_read ways (length ways) place told refl item.3.0 item.1 in
    match_map c.set.result _ _ _ _
    (λ x more. remembers_more _ h may begun (set_length ways place _)
    (cut_set_to network all event c.args.link c.args.way c.args.cut place ways told c.set.new.self h.ways c.way_place.ensures at what
    c.set.ensures.initial (more ∙ ap (λ ch. told.cut.changes.items ++ ch ∷ []) (ap (λ t. change_to t c.args.cut) (sym time)))) refl
    (no_devices network all event (cut_event c.args.cut c.args.link c.args.way) old.devices.items what (λ d.
    cut_no_step c.args.cut c.args.link c.args.way d (amount event.time)) (λ d. cut_no_break c.args.cut c.args.link c.args.way d)
    (λ d. cut_no_turn c.args.cut c.args.link c.args.way d) h.devices))
    (λ x same. remembers_same _ h (set_length ways place _)
    (same_way network all c.args.link c.args.way place ways told _ h.ways c.way_place.ensures at refl refl refl refl c.set.ensures.initial same) refl h.devices)
    c.set.ensures.changes

pub returns-in-None : goal.returns-in-None
returns-in-None c = λ event what time begun network all h may.
    let link = c.args.link in
    let has = cut_has network c.args.cut link c.args.way (subst (IsOfNetwork network) what may.of_network) in
    let there = has_place network link c.args.way has in
    let past = c.in-None.ensures.item.3 in
    absurd (omega (arith, c.way_place.ensures, h.ways_count))
