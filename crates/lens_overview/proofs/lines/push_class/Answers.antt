use Rattle.lens_overview.{proofs.Joins.joined, specs.{Labels.label_word, Lines.class_part}}
use Rattle.std.{proofs.Common.{◌++◌, ◌∙◌, List, ap, ℕ}, specs.Prelude.codes}
use Rattle.lens_overview.proofs.lines.push_class.Goals as goal

pub returns-clause-text : goal.returns-clause-text
unfolding class_part
returns-clause-text c =
    let o = c.args.line.now in
    let first = codes "<text class=\"name " in
    let word = label_word c.args.label in
    joined o (first ++ word) (codes "\" x=\"192\" y=\"3\">") c.push-2.new.self c.push-3.new.self
    (joined o first word c.push.new.self c.push-2.new.self c.push.ensures.text
    (c.push-2.ensures.text ∙ ap (λ (x : List ℕ). c.push.new.self ++ x) c.label_word.ensures.text))
    c.push-3.ensures.text
