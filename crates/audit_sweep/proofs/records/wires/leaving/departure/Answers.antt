use Rattle.{audit_law.specs.events.Readings.scenario_under, device_rules.specs.Answers.departure_as}
use Rattle.audit_sweep.proofs.records_lemmas.wires_lemmas.Wires
use Wires.{departs, given_within, giver_is, not_given_departs, other_time_departs}
use Rattle.{run_law.specs.scenario.Ways.is_cut, std.proofs.Common.{◌∙◌, ap, refl, sym}}
use Rattle.audit_sweep.proofs.records.wires.leaving.departure.Goals as goal

pub returns-then-not-is_giver : goal.returns-then-not-is_giver
returns-then-not-is_giver c befallen hs h cause rem there k has is x =
    not_given_departs (scenario_under c.args.network.now befallen) hs h c.args.kept.now c.args.device c.args.time c.args.link cause there k
    (λ e. let yes = c.is_giver.ensures.1 e in let no = c.if-not-is_giver.true in cc) x

pub returns-then-from-leaving_time : goal.returns-then-from-leaving_time
returns-then-from-leaving_time c befallen hs h cause rem there k has is x =
    let s = scenario_under c.args.network.now befallen in
    let by = c.is_giver.ensures.0 c.if-not-is_giver.false in
    let linked = given_within c.args.network.now h.note.body c.args.device c.args.link (giver_is s h c.args.kept.now c.args.device c.args.link k by) in
    other_time_departs s hs h c.args.kept.now c.args.device c.args.time c.args.link cause there k
    (λ e. c.if-from-leaving_time.true (c.from.ensures ∙ e ∙ sym (c.leaving_time.ensures.value befallen rem linked))) x

pub returns : goal.returns
returns c befallen hs h cause rem there k has =
    let s = scenario_under c.args.network.now befallen in
    let by = c.is_giver.ensures.0 c.if-not-is_giver.false in
    let linked = given_within c.args.network.now h.note.body c.args.device c.args.link (giver_is s h c.args.kept.now c.args.device c.args.link k by) in
    let cut = c.is_cut-cut.ensures c.args.network.now befallen rem linked
    ∙ ap (λ w. is_cut s c.args.link w c.args.time) c.way_from.ensures in
    departs s hs h c.args.kept.now c.in-Some.frame c.args.device c.args.time c.args.link cause (departure_as c.departure.result) there k c.in-Some.is by
    (sym c.from.ensures ∙ c.if-from-leaving_time.false ∙ c.leaving_time.ensures.value befallen rem linked)
    (sym (c.is_broken.ensures c.args.network.now befallen rem has) ∙ c.if-is_broken.false)
    (c.departure.ensures s c.args.device c.args.link c.in-Some.frame c.args.kept.now.time c.args.time refl refl
    (sym (c.grown-grown.ensures c.args.network.now befallen rem has)) (sym cut))
