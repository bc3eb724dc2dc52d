use Rattle.{audit_devices.specs.stretches.Points.HasPoints, run_law.specs.{control.Emissions.Emits, scenario.{Devices.is_cm, Scenarios.is_broken}}}
use Rattle.audit_sweep.proofs.Words.{◌∙◌, ◌≡◌, ◌≤◌, DeviceId, Judgement, Some, ap, one, points_of, refl, scenario_under, subst, sym, true, ℕ}
use Rattle.std.proofs.Common.{◌-◌}
use Rattle.audit_sweep.proofs.hearing.emits.Goals as goal

pub emission-requires-clause-gathered : goal.emission-requires-clause-gathered
emission-requires-clause-gathered c =
    let k = c.requires.known.2 in
    let hs = c.requires.known.1 in
    let stretch = c.latest-stretch.result in
    let h = c.hearer-hearer.result in
    let base = c.latest-stretch.ensures c.args.network.now hs k.stretches in
    let collects = subst (λ n. is_cm n h.device ≡ true → HasPoints n (points_of hs h.device) stretch.collections.now stretch.gathering)
    (sym c.hearer-hearer.ensures.of.0)
    (subst (λ d. is_cm c.args.network.now d ≡ true → HasPoints c.args.network.now (points_of hs d) stretch.collections.now stretch.gathering)
    (sym c.hearer-hearer.ensures.of.1) base) in
    λ cm. (points_of hs h.device, collects cm)

pub returns-in-Some : goal.returns-in-Some
returns-in-Some c befallen hs k b =
    let s = scenario_under c.args.network.now befallen in
    let t = c.args.time in
    let stretch = c.latest-stretch.result in
    let h = c.hearer-hearer.result in
    let dev = c.hearer-hearer.ensures.of.1 in
    let hearer = c.hearer-hearer.ensures.is befallen hs hs k b refl (c.latest.ensures s hs k.standings) in
    let base = c.latest-stretch.ensures c.args.network.now hs k.stretches in
    let collects = subst (λ n. is_cm n h.device ≡ true → HasPoints n (points_of hs h.device) stretch.collections.now stretch.gathering)
    (sym c.hearer-hearer.ensures.of.0)
    (subst (λ d. is_cm c.args.network.now d ≡ true → HasPoints c.args.network.now (points_of hs d) stretch.collections.now stretch.gathering)
    (sym dev) base) in
    let m = c.of-moment.ensures c.args.network.now befallen k.events c.requires.there in
    let e = c.emission.ensures s hs hearer collects (record {
      now = m.reading.now ∙ ap (λ (d : DeviceId). s.reading d t) (sym dev);
      before = m.reading.before ∙ ap (λ (d : DeviceId). s.reading d (t - 1)) (sym dev);
      rises = subst (λ (d : DeviceId). (u v : ℕ) → u ≤ v → s.reading d u ≤ s.reading d v) (sym dev) m.steady.never_falls;
      broken_is = m.broken ∙ ap (λ d. is_broken s d t) (sym dev);
    }) c.args.verdict in (
      λ yes. subst (λ d. Emits s hs d t c.args.sent.now c.args.verdict) dev
          (e.0 (c.in-Some.is ∙ ap (λ (v : Judgement). Some v) (c.is_same_judgement.ensures.0 yes))),
      λ y. c.is_same_judgement.ensures.1 (one c.emission.result c.in-Some.heard c.args.verdict c.in-Some.is
          (e.1 (subst (λ d. Emits s hs d t c.args.sent.now c.args.verdict) (sym dev) y))),
    )

pub returns-in-None : goal.returns-in-None
returns-in-None c befallen hs k b =
    let s = scenario_under c.args.network.now befallen in
    let t = c.args.time in
    let stretch = c.latest-stretch.result in
    let h = c.hearer-hearer.result in
    let dev = c.hearer-hearer.ensures.of.1 in
    let hearer = c.hearer-hearer.ensures.is befallen hs hs k b refl (c.latest.ensures s hs k.standings) in
    let base = c.latest-stretch.ensures c.args.network.now hs k.stretches in
    let collects = subst (λ n. is_cm n h.device ≡ true → HasPoints n (points_of hs h.device) stretch.collections.now stretch.gathering)
    (sym c.hearer-hearer.ensures.of.0)
    (subst (λ d. is_cm c.args.network.now d ≡ true → HasPoints c.args.network.now (points_of hs d) stretch.collections.now stretch.gathering)
    (sym dev) base) in
    let m = c.of-moment.ensures c.args.network.now befallen k.events c.requires.there in
    let e = c.emission.ensures s hs hearer collects (record {
      now = m.reading.now ∙ ap (λ (d : DeviceId). s.reading d t) (sym dev);
      before = m.reading.before ∙ ap (λ (d : DeviceId). s.reading d (t - 1)) (sym dev);
      rises = subst (λ (d : DeviceId). (u v : ℕ) → u ≤ v → s.reading d u ≤ s.reading d v) (sym dev) m.steady.never_falls;
      broken_is = m.broken ∙ ap (λ d. is_broken s d t) (sym dev);
    }) c.args.verdict in (
      λ yes. absurd cc,
      λ y. let some = e.1 (subst (λ d. Emits s hs d t c.args.sent.now c.args.verdict) (sym dev) y) in
          let none = c.in-None.is in absurd cc,
    )
