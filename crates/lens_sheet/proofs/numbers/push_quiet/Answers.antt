use Rattle.lens_sheet.{proofs.Texts.four, specs.Lines.{part_text, quiet_text}}
use Rattle.std.{proofs.Common.{◌*◌, ◌++◌, ◌∙◌, ◌≡◌, ap, ℕ}, specs.Prelude.codes}
use Rattle.tte_units.specs.Amount.{amount}
use Rattle.lens_sheet.proofs.numbers.push_quiet.Goals as goal

pub returns-clause-text : goal.returns-clause-text
unfolding quiet_text
returns-clause-text c =
    let line = c.args.line.now in
    let n = c.args.network.now in
    let p1 : c.push_part.new.line ≡ line ++ part_text (codes " correction ") (amount n.correction) =
    c.push_part.ensures.text ∙ ap (λ k. line ++ part_text (codes " correction ") k) c.amount.ensures.value in
    let p2 : c.push_part-2.new.line ≡ c.push_part.new.line ++ part_text (codes " dmax ") (amount n.dmax) =
    c.push_part-2.ensures.text ∙ ap (λ k. c.push_part.new.line ++ part_text (codes " dmax ") k) c.amount-2.ensures.value in
    let p3 : c.push_part-3.new.line ≡ c.push_part-2.new.line ++ part_text (codes " precision ") (4 * amount n.precision) =
    c.push_part-3.ensures.text ∙ ap (λ (k : ℕ). c.push_part-2.new.line ++ part_text (codes " precision ") (4 * k)) c.amount-3.ensures.value in
    four line (part_text (codes " correction ") (amount n.correction)) (part_text (codes " dmax ") (amount n.dmax))
    (part_text (codes " precision ") (4 * amount n.precision)) (part_text (codes " control ") c.args.weights.now.control) c.push_part.new.line
    c.push_part-2.new.line c.push_part-3.new.line c.push_part-4.new.line p1 p2 p3 c.push_part-4.ensures.text
