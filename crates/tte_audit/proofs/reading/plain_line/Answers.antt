use Rattle.{run_law.specs.plain.Bodies.body_of, std.specs.Fmt.signed_decimal, tte_audit.specs.{Report.saying, Spellings.first_word}}
use Rattle.tte_audit.proofs.Telling.{has_kind, text_of_words, words_of_text}
use Rattle.tte_audit.proofs.{Words.{◌∙◌, ◌∷◌, Words, ap, behind_word, decimal, rules, sym}}
use Rattle.tte_audit.proofs.reading.plain_line.Goals as goal

pub returns-in_err-number-clause-is : goal.returns-in_err-number-clause-is
returns-in_err-number-clause-is c number time p h none =
    let ws = c.of-words.ensures ∙ words_of_text c.args.network.now (saying number time (body_of p)) c.args.text.now c.requires h in
    c.count.ensures.is number h.in_range.number (ap first_word ws) (search rules)

pub returns-in_err-time-clause-is : goal.returns-in_err-time-clause-is
returns-in_err-time-clause-is c number time p h none =
    let ws = c.of-words.ensures ∙ words_of_text c.args.network.now (saying number time (body_of p)) c.args.text.now c.requires h in
    let two = c.count.ensures.rest ∙ ap behind_word ws in
    c.units.ensures.is time h.in_range.time (ap first_word two) (search rules)

pub returns-in_err-word-clause-is : goal.returns-in_err-word-clause-is
returns-in_err-word-clause-is c number time p h none =
    let ws = c.of-words.ensures ∙ words_of_text c.args.network.now (saying number time (body_of p)) c.args.text.now c.requires h in
    let two = c.count.ensures.rest ∙ ap behind_word ws in
    let three = c.units.ensures.rest ∙ ap behind_word two in
    let k = has_kind c.args.network.now p in
    c.kind.ensures.is k.kind (ap first_word three ∙ k.is) (search rules)

pub returns-in_err-kind-clause-is : goal.returns-in_err-kind-clause-is
returns-in_err-kind-clause-is c number time p h none =
    let ws = c.of-words.ensures ∙ words_of_text c.args.network.now (saying number time (body_of p)) c.args.text.now c.requires h in
    let two = c.count.ensures.rest ∙ ap behind_word ws in
    let three = c.units.ensures.rest ∙ ap behind_word two in
    c.plain_of.ensures.is p (h.of_network, h.in_range.body, sym c.in_ok-word.ensures.text ∙ three) (search rules)

pub returns-clause-text : goal.returns-clause-text
returns-clause-text c =
    let number = c.in_ok-number.number in
    let time = c.in_ok-time.time in
    let told = c.in_ok-kind.ensures.told in
    let ws = sym c.of-words.ensures
    ∙ c.in_ok-number.ensures.text
    ∙ ap (λ (ws : Words). decimal number ∷ ws) (c.in_ok-time.ensures.text
    ∙ ap (λ (ws : Words). signed_decimal time.0 ∷ ws) (c.in_ok-word.ensures.text ∙ told.2)) in
    record {
      of_network = told.0;
      in_range = record { number = c.in_ok-number.ensures.range; time = c.in_ok-time.ensures.range; body = told.1 };
      same = text_of_words c.args.network.now (saying number time (body_of c.in_ok-kind.kind)) c.args.text.now ws;
    }
