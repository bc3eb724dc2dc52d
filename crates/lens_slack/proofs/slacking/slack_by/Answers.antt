use Rattle.{lens_slack.{proofs.Files.{answered_network, answered_unread}, specs.Answer.IsSlackOf}, tte_forms.specs.Putting.shown_by}
use Rattle.lens_slack.proofs.slacking.slack_by.Goals as goal

pub returns-in-Ok-clause-general : goal.returns-in-Ok-clause-general
returns-in-Ok-clause-general g c =
    let shown = shown_by g.K.Sink in
    answered_network (IsSlackOf c.args.steps.now) (g.A.Source.left c.args.source.now) c.in-Ok.network
    c.put_slack_of.result c.in-Ok.ensures.read c.put_slack_of.ensures.gives

pub returns-in-Err-clause-general : goal.returns-in-Err-clause-general
returns-in-Err-clause-general g c =
    let shown = shown_by g.K.Sink in
    answered_unread (IsSlackOf c.args.steps.now) (g.A.Source.left c.args.source.now) c.in-Err.cause
    c.put_no_network.result c.in-Err.ensures.none c.put_no_network.ensures.gives c.put_no_network.ensures.unput
