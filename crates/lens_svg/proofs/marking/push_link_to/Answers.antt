use Rattle.{lens_svg.specs.Marking.link_to, std.{proofs.Common.{◌++◌, ◌∙◌, ◌≡◌, List, ap, append_assoc, refl, ℕ}, specs.Prelude.{codes, decimal}}}
use Rattle.lens_svg.proofs.marking.push_link_to.Goals as goal

parts : (old a b c : List ℕ) → ((old ++ a) ++ b) ++ c ≡ old ++ (a ++ b ++ c)
parts old a b c = simp append_assoc refl

pub returns-clause-text : goal.returns-clause-text
unfolding link_to
returns-clause-text c =
    c.push-2.ensures.text
    ∙ ap (λ (ls : List ℕ). ls ++ codes "\">") (c.push_decimal.ensures.text ∙ ap (λ (ls : List ℕ). ls ++ decimal c.args.number) c.push.ensures.text)
    ∙ parts c.args.line.now (codes "<a xlink:href=\"#r") (decimal c.args.number) (codes "\">")
