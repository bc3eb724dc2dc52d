use Rattle.std.{proofs.{Common.{◌∙◌, ap, rules, sym}, lemmas.{Bool.false≢true, Int.to_z-of_z}}, specs.Int.w128}
use Rattle.device_rules.{proofs.Verdicts.{corrects, none_qualifies, some_qualifies}, specs.Answers.{in_units, standing_of, unit}}
use Rattle.device_rules.proofs.correcting.verdict.Goals as goal

pub returns-then-is_at_integration : goal.returns-then-is_at_integration
returns-then-is_at_integration c = (c.is_at_integration.ensures c.args.network.now c.args.device).0 c.if-is_at_integration.true

pub returns-in-None : goal.returns-in-None
returns-in-None c =
    let s = standing_of c.args.network.now c.args.device c.args.standing.now in (
      λ at. false≢true (sym c.if-is_at_integration.false ∙ (c.is_at_integration.ensures c.args.network.now c.args.device).1 at),
      none_qualifies s c.args.heard.now
          (sym (corrects s c.args.heard.now _ _ _ c.correction.ensures.value c.deviation_on-a.ensures.value c.deviation_on-b.ensures.value)
          ∙ ap in_units c.in-None.is),
    )

pub returns-in-Some : goal.returns-in-Some
returns-in-Some c =
    let s = standing_of c.args.network.now c.args.device c.args.standing.now in (
      λ at. false≢true (sym c.if-is_at_integration.false ∙ (c.is_at_integration.ensures c.args.network.now c.args.device).1 at),
      some_qualifies s c.args.heard.now (unit c.in-Some.field-0)
          (sym (corrects s c.args.heard.now _ _ _ c.correction.ensures.value c.deviation_on-a.ensures.value c.deviation_on-b.ensures.value)
          ∙ ap in_units c.in-Some.is),
      c.is_outnumbered.ensures.0 c.if-is_outnumbered.true,
    )

pub returns-in-Some-2 : goal.returns-in-Some-2
returns-in-Some-2 c =
    let s = standing_of c.args.network.now c.args.device c.args.standing.now in
    let is = sym (corrects s c.args.heard.now _ _ _ c.correction.ensures.value c.deviation_on-a.ensures.value c.deviation_on-b.ensures.value)
    ∙ ap in_units c.in-Some.is in (
      λ at. false≢true (sym c.if-is_at_integration.false ∙ (c.is_at_integration.ensures c.args.network.now c.args.device).1 at),
      some_qualifies s c.args.heard.now (unit c.in-Some.field-0) is,
      λ many. false≢true (sym c.if-is_outnumbered.false ∙ c.is_outnumbered.ensures.1 many),
      rw (to_z-of_z w128 c.in-Some.field-0 (search rules)) is,
    )
