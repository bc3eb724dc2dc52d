use Rattle.{audit_law.specs.events.Readings.scenario_under, std.proofs.Common.{◌<◌, ◌∙◌, ◌≤◌, ap, not, subst, sym}}
use Rattle.tte_units.proofs.general_lemmas.Options.{some_of}
use Rattle.audit_sweep.proofs.records_lemmas.wires_lemmas.Wires.{broken, given_within, giver_is, later, leaving}
use Rattle.audit_sweep.proofs.records.wires.leaving.departure_due.Goals as goal

pub returns-then-from-time-clause-leaves : goal.returns-then-from-time-clause-leaves
returns-then-from-time-clause-leaves c befallen hs h cause rem there k known o =
    let s = scenario_under c.args.network.now befallen in
    let by = sym c.giver.ensures ∙ c.in-Some.is in
    let has = given_within c.args.network.now h.note.body c.in-Some.device c.args.link
    (giver_is s h c.args.kept.now c.in-Some.device c.args.link k by) in
    later s hs h c.args.kept.now c.args.until cause c.leaving_time-time.result c.args.link c.in-Some.device there k by
    (c.leaving_time-time.ensures.value befallen rem has) (subst (λ n. n < c.leaving_time-time.result) c.from.ensures c.if-from-time.true) o

pub returns-then-is_broken-clause-leaves : goal.returns-then-is_broken-clause-leaves
returns-then-is_broken-clause-leaves c befallen hs h cause rem there k known o =
    let s = scenario_under c.args.network.now befallen in
    let by = sym c.giver.ensures ∙ c.in-Some.is in
    let has = given_within c.args.network.now h.note.body c.in-Some.device c.args.link
    (giver_is s h c.args.kept.now c.in-Some.device c.args.link k by) in
    broken s hs h c.args.kept.now c.args.until cause c.leaving_time-time.result c.args.link c.in-Some.device there k by
    (c.leaving_time-time.ensures.value befallen rem has)
    (sym (c.is_broken.ensures c.args.network.now befallen rem (known c.in-Some.device by)) ∙ c.if-is_broken.true) o

pub returns-clause-leaves : goal.returns-clause-leaves
returns-clause-leaves c befallen hs h cause rem there k known =
    let s = scenario_under c.args.network.now befallen in
    let by = sym c.giver.ensures ∙ c.in-Some.is in
    let has = given_within c.args.network.now h.note.body c.in-Some.device c.args.link
    (giver_is s h c.args.kept.now c.in-Some.device c.args.link k by) in
    let framed = some_of c.args.kept.now.frame (c.is_none.ensures ∙ ap not c.if-is_none.false) in
    leaving s hs h c.args.kept.now framed.0 c.args.until cause c.leaving_time-time.result c.args.link c.in-Some.device there k
    framed.1 by (c.leaving_time-time.ensures.value befallen rem has)
    (sym (c.is_broken.ensures c.args.network.now befallen rem (known c.in-Some.device by)) ∙ c.if-is_broken.false)
    (subst (λ n. c.leaving_time-time.result ≤ n) c.from.ensures c.if-from-time.false)

pub returns-clause-within : goal.returns-clause-within
returns-clause-within c = subst (λ n. c.leaving_time-time.result ≤ n) c.from.ensures c.if-from-time.false
