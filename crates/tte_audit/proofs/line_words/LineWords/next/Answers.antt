use Rattle.{std.proofs.{Common.drop, lemmas.List.take_rest}, trace_text.specs.Steps.words}
use Rattle.trace_text.proofs.Splitting.{words_parted, words_whole}
use Rattle.tte_audit.proofs.Words.{◌+◌, ◌∙◌, ◌∷◌, ◌≡◌, ap, rules, sym, take}
use Rattle.tte_audit.proofs.line_words.LineWords.next.Goals as goal

pub returns-in-Some : goal.returns-in-Some
returns-in-Some c =
    let text = c.in_ok-left.left.now in
    let place = c.in-Some.place in
    let parted : words text ≡ take place text ∷ words (drop (place + 1) text) = words_parted text place (search rules) in
    let whole : c.args.self.now ≡ words text = search rules in
    whole ∙ parted ∙ ap (λ rest. take place text ∷ words rest) (sym (take_rest text (place + 1)))

pub returns-in-None : goal.returns-in-None
returns-in-None c =
    let text = c.in_ok-left.left.now in
    let whole : c.args.self.now ≡ words text = search rules in
    whole ∙ words_whole text (search rules)
