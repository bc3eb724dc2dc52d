use Rattle.{lens_svg.specs.{Elements.extent_text, Numbers.micros_text}, std.specs.Prelude.{codes, decimal}}
use Rattle.std.proofs.Common.{◌++◌, ◌∙◌, ◌≡◌, List, ap, append_assoc, refl, ℕ}
use Rattle.lens_svg.proofs.element.push_extent.Goals as goal

parts : (old a b c d e : List ℕ) → ((((old ++ a) ++ b) ++ c) ++ d) ++ e ≡ old ++ (a ++ b ++ c ++ d ++ e)
parts old a b c d e = simp append_assoc refl

pub returns : goal.returns
unfolding extent_text
returns c =
    let end = codes " us. Gaps are drawn shortened.</text>\n" in
    let precision = micros_text c.args.precision in
    let records = decimal c.args.records in
    let first = c.push_decimal.ensures.text ∙ ap (λ (ls : List ℕ). ls ++ records) c.push.ensures.text in
    let second = c.push-2.ensures.text ∙ ap (λ (ls : List ℕ). ls ++ codes ", precision ") first in
    let third = c.push_micros.ensures.text ∙ ap (λ (ls : List ℕ). ls ++ precision) second in
    c.push-3.ensures.text ∙ ap (λ (ls : List ℕ). ls ++ end) third ∙ parts c.args.line.now (codes ", records ") records (codes ", precision ") precision end
