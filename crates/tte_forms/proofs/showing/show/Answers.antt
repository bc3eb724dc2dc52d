use Rattle.std.proofs.Common.{◌∙◌, Err, ap}
use Rattle.tte_forms.{proofs.frames.Answers.{answers-long, answers-read}, specs.{Putting.shown_by}}
use Rattle.tte_forms.proofs.showing.show.Goals as goal

pub returns-in-Ok-clause-general : goal.returns-in-Ok-clause-general
returns-in-Ok-clause-general g c =
    let shown = shown_by g.K.Sink in
    let gives = rw c.as_slice.ensures at c.show_frames.ensures.gives in
    answers-read (g.A.Source.left c.args.source.now) c.in-Ok.octets c.show_frames.result (shown c.args.out.now) (shown c.show_frames.new.out)
    c.in-Ok.ensures.whole c.in-Ok.ensures.within gives

pub returns-in-Err-TooLong-clause-general : goal.returns-in-Err-TooLong-clause-general
returns-in-Err-TooLong-clause-general g c =
    answers-long (g.A.Source.left c.args.source.now) c.end_with.result (shown_by g.K.Sink c.args.out.now) (shown_by g.K.Sink c.end_with.new.out)
    (c.read_all.ensures.too_long_left (c.in-Err-TooLong.is ∙ ap Err c.in-Err-TooLong.field-0-is)) c.end_with.ensures.ends
