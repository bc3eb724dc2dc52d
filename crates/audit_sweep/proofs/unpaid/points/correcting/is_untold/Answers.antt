use Rattle.audit_devices.specs.clocks.{Moments.{IsMoment, StandsAt}, Points.IsHeard}
use Rattle.run_law.proofs.law.FirstDeliveries.{same_earlier, split}
use Rattle.audit_sweep.proofs.unpaid_lemmas.points_lemmas.{Telling.{by_front, heard_front}}
use Rattle.audit_sweep.proofs.unpaid_lemmas.points_lemmas.{Words.{scenario_under, subst, sym, true}}
use Rattle.audit_sweep.proofs.unpaid_lemmas.points_lemmas.Words.{◌∙◌, ◌∷◌, IsDue, OwesAt, Shows, [], false, false≢true, place_of, refl}
use Rattle.std.proofs.lemmas.Bool.{not-false, not-true}
use Rattle.audit_sweep.proofs.unpaid.points.correcting.is_untold.Goals as goal

pub returns-then-is_owed-clause-untold : goal.returns-then-is_owed-clause-untold
returns-then-is_owed-clause-untold c befallen hs kept founded shows untold =
    let s = scenario_under c.args.network.now befallen in
    let device = c.args.device in
    let t = c.args.time in
    let at = split place_of (IsDue s) hs (t ∷ 6 ∷ []) founded in
    let befalls : IsMoment s device t c.of-moment.result = c.of-moment.ensures c.args.network.now befallen kept.remembers c.requires.device in
    let stands : StandsAt s at.front c.args.network.now device t c.of-moment.result c.args.shown.now = record {
      of_network = refl;
      befalls = befalls;
      shows = subst (λ es. Shows s es device c.args.shown.now) (sym (same_earlier t (6 ∷ []) at)) shows;
    } in
    let hears : IsHeard s at.front device t c.heard_since-heard.result =
    heard_front s hs device t at c.heard_since-heard.result c.before_rank.result.now founded (c.before_rank.ensures s hs kept.stands)
    (λ after shown. c.heard_since-heard.ensures s at.front device t (record { of_network = refl; reads = befalls.reading.before }) after shown) in
    let owed = c.is_owed.ensures.0 c.if-is_owed.true in
    let comes = (c.coming_point.ensures s at.front t owed.0 owed.1 stands hears).0 owed.2 in
    let owes : OwesAt s hs device t owed.0 =
    record { verdict = owed.1; comes = (by_front s {hs = hs} device t owed.0 owed.1 at).0 comes; more = owed.3 } in (
      owed.0,
      owes,
      λ told. false≢true (sym (not-true c.is_told.result untold) ∙ (c.is_told.ensures s hs owed.0 kept.places_are founded).1 told),
    )

pub returns-then-is_owed-clause-told : goal.returns-then-is_owed-clause-told
returns-then-is_owed-clause-told c befallen hs kept founded shows told cycle owes =
    (c.is_told.ensures (scenario_under c.args.network.now befallen) hs cycle kept.places_are founded).0 (not-false c.is_told.result told)

pub returns-else-is_owed-clause-told : goal.returns-else-is_owed-clause-told
returns-else-is_owed-clause-told c befallen hs kept founded shows told cycle owes =
    let s = scenario_under c.args.network.now befallen in
    let device = c.args.device in
    let t = c.args.time in
    let at = split place_of (IsDue s) hs (t ∷ 6 ∷ []) founded in
    let befalls : IsMoment s device t c.of-moment.result = c.of-moment.ensures c.args.network.now befallen kept.remembers c.requires.device in
    let stands : StandsAt s at.front c.args.network.now device t c.of-moment.result c.args.shown.now = record {
      of_network = refl;
      befalls = befalls;
      shows = subst (λ es. Shows s es device c.args.shown.now) (sym (same_earlier t (6 ∷ []) at)) shows;
    } in
    let hears : IsHeard s at.front device t c.heard_since-heard.result =
    heard_front s hs device t at c.heard_since-heard.result c.before_rank.result.now founded (c.before_rank.ensures s hs kept.stands)
    (λ after shown. c.heard_since-heard.ensures s at.front device t (record { of_network = refl; reads = befalls.reading.before }) after shown) in
    let comes = (by_front s {hs = hs} device t cycle owes.verdict at).1 owes.comes in
    let point = (c.coming_point.ensures s at.front t cycle owes.verdict stands hears).1 comes in
    absurd (false≢true (sym c.if-is_owed.false ∙ c.is_owed.ensures.1 (cycle, owes.verdict, point, owes.more)))
