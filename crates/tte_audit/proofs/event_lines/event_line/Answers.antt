use Rattle.{run_law.specs.declared.note.NoteBody.TheVariants.Event, std.specs.Fmt.signed_decimal, tte_audit.specs.{Report.saying, Spellings.first_word}}
use Rattle.tte_audit.proofs.Telling.{some_words, text_of_words, words_of_text}
use Rattle.tte_audit.proofs.{Words.{◌∙◌, ◌∷◌, Words, ap, behind_word, codes, decimal, rules, sym}}
use Rattle.tte_audit.proofs.event_lines.event_line.Goals as goal

pub returns-in_err-read-inside-clause-is : goal.returns-in_err-read-inside-clause-is
returns-in_err-read-inside-clause-is c number time line w h none =
    let ws = c.of-words.ensures ∙ words_of_text c.args.network.now (saying number time (Event line w)) c.args.text.now c.requires.in_range h in
    c.count.ensures.is number h.in_range.number (ap first_word ws) (search rules)

pub returns-in_err-read-inside-2-clause-is : goal.returns-in_err-read-inside-2-clause-is
returns-in_err-read-inside-2-clause-is c number time line w h none =
    let ws = c.of-words.ensures ∙ words_of_text c.args.network.now (saying number time (Event line w)) c.args.text.now c.requires.in_range h in
    let two = c.count.ensures.rest ∙ ap behind_word ws in
    c.units.ensures.is time h.in_range.time (ap first_word two) (search rules)

pub returns-in_err-fixed-clause-is : goal.returns-in_err-fixed-clause-is
returns-in_err-fixed-clause-is c number time line w h none =
    let ws = c.of-words.ensures ∙ words_of_text c.args.network.now (saying number time (Event line w)) c.args.text.now c.requires.in_range h in
    let three = c.units.ensures.rest ∙ ap behind_word (c.count.ensures.rest ∙ ap behind_word ws) in
    c.fixed.ensures.is (ap first_word three) (search rules)

pub returns-in_err-read-inside-3-clause-is : goal.returns-in_err-read-inside-3-clause-is
returns-in_err-read-inside-3-clause-is c number time line w h none =
    let ws = c.of-words.ensures ∙ words_of_text c.args.network.now (saying number time (Event line w)) c.args.text.now c.requires.in_range h in
    let three = c.units.ensures.rest ∙ ap behind_word (c.count.ensures.rest ∙ ap behind_word ws) in
    let four = c.fixed.ensures.rest ∙ ap behind_word three in
    c.count-2.ensures.is line h.in_range.body.0 (ap first_word four) (search rules)

pub returns-in_err-rest-clause-is : goal.returns-in_err-rest-clause-is
returns-in_err-rest-clause-is c number time line w h none =
    let ws = c.of-words.ensures ∙ words_of_text c.args.network.now (saying number time (Event line w)) c.args.text.now c.requires.in_range h in
    let three = c.units.ensures.rest ∙ ap behind_word (c.count.ensures.rest ∙ ap behind_word ws) in
    let five = c.count-2.ensures.rest ∙ ap behind_word (c.fixed.ensures.rest ∙ ap behind_word three) in
    some_words c.args.network.now w (sym five ∙ c.in_err-rest.ensures)

pub returns-in_err-exact_what-clause-is : goal.returns-in_err-exact_what-clause-is
returns-in_err-exact_what-clause-is c number time line w h none =
    let ws = c.of-words.ensures ∙ words_of_text c.args.network.now (saying number time (Event line w)) c.args.text.now c.requires.in_range h in
    let three = c.units.ensures.rest ∙ ap behind_word (c.count.ensures.rest ∙ ap behind_word ws) in
    let five = c.count-2.ensures.rest ∙ ap behind_word (c.fixed.ensures.rest ∙ ap behind_word three) in
    c.exact_what.ensures.is w h.of_network h.in_range.body.1 (sym c.in_ok-rest.ensures ∙ five) (search rules)

pub returns-clause-text : goal.returns-clause-text
returns-clause-text c =
    let number = c.in_ok-read-inside.field-0 in
    let time = c.in_ok-read-inside-2.field-0 in
    let line = c.in_ok-read-inside-3.field-0 in
    let what = c.exact_what.new.what in
    let told = c.in_ok-exact_what.ensures in
    let ws = sym c.of-words.ensures
    ∙ c.in_ok-read-inside.ensures.text
    ∙ ap (λ (ws : Words). decimal number ∷ ws) (c.in_ok-read-inside-2.ensures.text
    ∙ ap (λ (ws : Words). signed_decimal time.0 ∷ ws) (c.in_ok-fixed.ensures.text
    ∙ ap (λ (ws : Words). codes "event" ∷ ws) (c.in_ok-read-inside-3.ensures.text
    ∙ ap (λ (ws : Words). decimal line ∷ ws) (c.in_ok-rest.ensures ∙ told.text)))) in
    record {
      of_network = told.of_network;
      in_range = record { number = c.in_ok-read-inside.ensures.range; time = c.in_ok-read-inside-2.ensures.range; body = (c.in_ok-read-inside-3.ensures.range, told.range) };
      same = text_of_words c.args.network.now (saying number time (Event line what)) c.args.text.now ws;
    }
