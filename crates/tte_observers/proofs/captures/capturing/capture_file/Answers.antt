use Rattle.{std.proofs.Common.{◌∙◌, Err, ap, subst}, tte_forms.specs.{Answering.Gives, Putting.shown_by}}
use Rattle.tte_observers.proofs.captures_lemmas.Packets.{answers-long, answers-read}
use Rattle.tte_observers.{specs.captures.{Answer.opened_answer, pcap.Reading.opened}}
use Rattle.tte_observers.proofs.captures.capturing.capture_file.Goals as goal

pub returns-in-Ok-clause-general : goal.returns-in-Ok-clause-general
returns-in-Ok-clause-general g c =
    let shown = shown_by g.K.Sink in
    let gives = subst (λ xs. Gives (opened_answer xs (opened xs)) c.show_file.result (shown c.args.out.now)
    (shown c.show_file.new.out))
    c.as_slice.ensures c.show_file.ensures.gives in
    answers-read (g.A.Source.left c.args.source.now) c.in-Ok.file c.show_file.result
    c.in-Ok.ensures.whole c.in-Ok.ensures.within gives

pub returns-in-Err-TooLong-clause-general : goal.returns-in-Err-TooLong-clause-general
returns-in-Err-TooLong-clause-general g c =
    answers-long (g.A.Source.left c.args.source.now) c.end_with.result (shown_by g.K.Sink c.args.out.now)
    (shown_by g.K.Sink c.end_with.new.out)
    (c.read_all.ensures.too_long_left (c.in-Err-TooLong.is ∙ ap Err c.in-Err-TooLong.field-0-is))
    c.end_with.ensures.ends
