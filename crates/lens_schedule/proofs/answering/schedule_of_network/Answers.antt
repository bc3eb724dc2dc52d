use Rattle.{lens_schedule.specs.Answer.IsScheduleOf, tte_forms.{proofs.networks.Answers.{answered_accepted, answered_none}, specs.Putting.shown_by}}
use Rattle.lens_schedule.proofs.answering.schedule_of_network.Goals as goal

pub returns-in-Ok-clause-general : goal.returns-in-Ok-clause-general
returns-in-Ok-clause-general g c =
    let shown = shown_by g.K.Sink in
    answered_accepted (IsScheduleOf c.args.words.now) (g.A.Source.left c.args.source.now) c.in-Ok.accepted c.put_schedule_of.result (shown c.args.out.now)
    (shown c.put_schedule_of.new.out) c.in-Ok.ensures.accepted c.put_schedule_of.ensures.gives

pub returns-in-Err-clause-general : goal.returns-in-Err-clause-general
returns-in-Err-clause-general g c =
    let shown = shown_by g.K.Sink in
    answered_none (IsScheduleOf c.args.words.now) (g.A.Source.left c.args.source.now) c.in-Err.cause c.put_no_network.result (shown c.args.out.now)
    (shown c.put_no_network.new.out) c.in-Err.ensures.none c.put_no_network.ensures.gives c.put_no_network.ensures.unput
