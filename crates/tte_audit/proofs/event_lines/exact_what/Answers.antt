use Rattle.trace_text.{proofs.EventsBack.words_back, specs.{EventReading.what_reader, Steps.words}}
use Rattle.tte_audit.proofs.{Telling.{same_read, words_read, written_small}, Words.{◌∙◌, Err, Ok, [], ap, rules}}
use Rattle.tte_audit.proofs.event_lines.exact_what.Goals as goal

pub returns-then-not-has_no_capital-clause-is : goal.returns-then-not-has_no_capital-clause-is
returns-then-not-has_no_capital-clause-is c w of_network range e none =
    let small = written_small c.args.network.now c.args.text.now w c.requires of_network range e in
    search (rules, c.has_no_capital.ensures.1 small)

pub returns-in-Err-clause-is : goal.returns-in-Err-clause-is
returns-in-Err-clause-is c w of_network range e none =
    let network = c.args.network.now in
    let back = ap (what_reader network) e ∙ words_back network w c.requires.devices c.requires.links of_network range in
    cc (same_read (what_reader network (words c.args.text.now)) (Err c.in-Err.field-0) (Ok (w, [])) (search rules) back)

pub returns-in-Ok-clause-text : goal.returns-in-Ok-clause-text
returns-in-Ok-clause-text c =
    words_read c.args.network.now c.args.text.now c.what_in.new.what c.what_in.new.words c.requires.in_range c.in-Ok.ensures.of_network c.in-Ok.ensures.range
    (c.has_no_capital.ensures.0 (search rules))
    (search rules)
