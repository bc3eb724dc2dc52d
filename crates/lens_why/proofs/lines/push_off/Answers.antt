use Rattle.std.{proofs.{Common.{◌++◌, ◌∙◌, ap, rules, ℤ}, lemmas.Int.to_z-of_z}, specs.{Fmt.signed_decimal, Int.w128}}
use Rattle.lens_why.{proofs.Pieces.four, specs.Lines.off_text}
use Rattle.lens_why.proofs.lines.push_off.Goals as goal

pub returns-clause-text : goal.returns-clause-text
unfolding off_text
returns-clause-text c =
    four _ _ _ _ _ _ _ _ _ c.push.ensures.text
    (c.push_signed.ensures.text ∙ ap (λ (z : ℤ). c.push.new.self ++ signed_decimal z) (to_z-of_z w128 c.args.off (search rules)))
    c.push-2.ensures.text c.push_decimal.ensures.text
