use Rattle.audit_devices.specs.stretches.Points.{HasPoints}
use Rattle.audit_sweep.proofs.Lacks.{heard_before}
use Rattle.run_law.{proofs.control.Verdicts.earlier_before, specs.declared.note.NoteBody.TheVariants.Permanent}
use Rattle.audit_sweep.proofs.{Words.{◌∷◌, ◌≡◌, arith, key, points_of, refl, scenario_under, subst, sym, true}}
use Rattle.run_law.specs.{control.Permanence.{IsJudgedBy, before_permanence}, declared.judgement.Judgement.TheVariants.Ignored, scenario.Devices.is_cm}
use Rattle.audit_sweep.proofs.hearing.ripening.Goals as goal

pub returns : goal.returns
returns c befallen hs k =
    let s = scenario_under c.args.network.now befallen in
    let p = c.args.passage in
    let f = c.args.permanent.now in
    let judged = before_permanence hs p.device p.time p.link p.cause f.frame f.point in
    let rest = key f.frame.members.0 (Permanent p.device p.link p.cause f.point Ignored) in
    let hearer = c.hearer.ensures.is befallen hs judged k (heard_before p.time 3 rest hs (omega arith)) (earlier_before hs p.time (3 ∷ rest))
    (c.before_permanence-shown.ensures s hs Ignored k.standings) in
    let base = c.before_permanence-stretch.ensures c.args.network.now hs k.stretches in
    let stretch = c.before_permanence-stretch.result in
    let collects = subst (λ n. is_cm n c.hearer.result.device ≡ true
    → HasPoints n (points_of judged c.hearer.result.device) stretch.collections.now stretch.gathering) (sym c.hearer.ensures.of.0)
    (subst (λ d. is_cm c.args.network.now d ≡ true
    → HasPoints c.args.network.now (points_of judged d) stretch.collections.now stretch.gathering) (sym c.hearer.ensures.of.1) base) in
    subst (λ d. IsJudgedBy s judged d p.time f.frame f.point c.ripening.result) c.hearer.ensures.of.1
    ((c.ripening.ensures s judged p.time hearer collects c.ripening.result).0 refl)
