use Rattle.lens_sheet.{proofs.Texts.three, specs.Lines.{heard_text, part_text}}
use Rattle.std.{proofs.Common.{◌*◌, ◌++◌, ◌∙◌, ◌≡◌, ap, ℕ}, specs.Prelude.codes}
use Rattle.tte_units.specs.Amount.{amount}
use Rattle.lens_sheet.proofs.numbers.push_heard.Goals as goal

pub returns-clause-text : goal.returns-clause-text
unfolding heard_text
returns-clause-text c =
    let line = c.args.line.now in
    let n = c.args.network.now in
    let p1 : c.push_part.new.line ≡ line ++ part_text (codes " dmax ") (2 * amount n.dmax) =
    c.push_part.ensures.text ∙ ap (λ (k : ℕ). line ++ part_text (codes " dmax ") (2 * k)) c.amount.ensures.value in
    let p2 : c.push_part-2.new.line ≡ c.push_part.new.line ++ part_text (codes " calc ") (amount n.calc) =
    c.push_part-2.ensures.text ∙ ap (λ k. c.push_part.new.line ++ part_text (codes " calc ") k) c.amount-2.ensures.value in
    let p3 : c.push_part-3.new.line ≡ c.push_part-2.new.line ++ part_text (codes " precision ") (10 * amount n.precision) =
    c.push_part-3.ensures.text ∙ ap (λ (k : ℕ). c.push_part-2.new.line ++ part_text (codes " precision ") (10 * k)) c.amount-3.ensures.value in
    three line (part_text (codes " dmax ") (2 * amount n.dmax)) (part_text (codes " calc ") (amount n.calc))
    (part_text (codes " precision ") (10 * amount n.precision)) c.push_part.new.line c.push_part-2.new.line c.push_part-3.new.line p1 p2 p3
