use Rattle.std.{proofs.{Common.{◌++◌, ◌∙◌, ap, of_z, rules, to_z, ℤ}, lemmas.Int.to_z-of_z}, specs.{Fmt.signed_decimal, Int.w128}}
use Rattle.lens_why.{proofs.Pieces.five, specs.Lines.{against_text, ground_text}}
use Rattle.lens_why.proofs.lines.push_heard.Goals as goal

pub returns-clause-text : goal.returns-clause-text
unfolding ground_text
returns-clause-text c =
    five _ _ _ _ _ _ _ _ _ _ _ c.push.ensures.text c.push_units.ensures.text c.push-2.ensures.text
    (c.push_signed.ensures.text ∙ ap (λ (z : ℤ). c.push-2.new.self ++ signed_decimal z) (to_z-of_z w128 c.args.adjustment (search rules)))
    (c.push_against.ensures.text
    ∙ ap (λ z. c.push_signed.new.line ++ against_text z (to_z w128 (of_z w128 c.args.off)) c.args.most) (to_z-of_z w128 c.args.expected (search rules))
    ∙ ap (λ z. c.push_signed.new.line ++ against_text c.args.expected z c.args.most) (to_z-of_z w128 c.args.off (search rules)))
