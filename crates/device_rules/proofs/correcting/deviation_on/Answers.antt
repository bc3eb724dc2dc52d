use Rattle.{device_rules.{proofs.Verdicts.shown, specs.{Answers.{standing_of}, Widths.IsFar}}, std.specs.{Int.w128, Prelude.ℤ}}
use Rattle.{std.proofs.{Common.{◌∙◌, ◌≡◌, rules, subst, sym}, lemmas.Int.to_z-of_z}, sync_state.specs.correction.Deviation.deviation_of}
use Rattle.device_rules.proofs.correcting.deviation_on.Goals as goal

same_by : (point by e f a b : ℤ) → by ≡ deviation_of e point a → e ≡ f → a ≡ b → by ≡ deviation_of f point b
same_by point by e f a b is same also = cc

pub returns : goal.returns
returns c =
    let n = c.args.network.now in
    let p = c.args.standing.now in
    let point = c.in_ok-frame.frame.point.0 in
    let expected = c.expected_at-expected in
    let by = c.deviation.result in
    let same = to_z-of_z w128 by (search rules) in
    let is = same_by point by _ _ _ _ c.deviation.ensures.value (to_z-of_z w128 expected.result (search rules) ∙ expected.ensures.value)
    (to_z-of_z w128 p.adjustment (search rules)) in
    record {
      value =
          rw (same ∙ is)
          (shown (standing_of n c.args.device p) c.args.heard.now c.args.channel c.in_ok-frame.frame
          (sym c.best.ensures.value ∙ c.in_ok-frame.was)
          (c.qualified.ensures.0 c.if-not-qualified.false));
      far = subst IsFar (sym same) c.deviation.ensures.far;
    }
