use Rattle.std.proofs.{Common.{◌+◌, ◌∙◌, ◌∷◌, ◌≡◌, ap, drop, rules, sym, take}, lemmas.List.take_rest}
use Rattle.lens_plan.{proofs.LineParts.{lines_parted, lines_whole}, specs.messages.Lines.lines_of}
use Rattle.lens_plan.proofs.messages.lines.Lines.next_line.Goals as goal

pub returns-in-Some : goal.returns-in-Some
returns-in-Some c =
    let text = c.in_ok-left.left.now in
    let place = c.in-Some.place in
    let parted : lines_of text ≡ take place text ∷ lines_of (drop (place + 1) text) = lines_parted text place (search rules) in
    let whole : c.args.self.now ≡ lines_of text = search rules in
    whole ∙ parted ∙ ap (λ rest. take place text ∷ lines_of rest) (sym (take_rest text (place + 1)))

pub returns-in-None : goal.returns-in-None
returns-in-None c =
    let text = c.in_ok-left.left.now in
    let whole : c.args.self.now ≡ lines_of text = search rules in
    whole ∙ lines_whole text (search rules)
