use Rattle.{lens_slack.specs.Answer.{IsFileAnswer, IsSlackOf}, tte_forms.specs.{Answering.AnswersOne, Putting.shown_by}}
use Rattle.std.proofs.Common.{subst}
use Rattle.lens_slack.proofs.slacking.slack_of_rule.Goals as goal

pub returns-clause-general : goal.returns-clause-general
returns-clause-general g c =
    let shown = shown_by g.K.Sink in
    subst (λ steps. AnswersOne (IsFileAnswer (IsSlackOf steps)) (g.A.Source.left c.args.source.now) c.slack_by.result (shown c.args.out.now)
    (shown c.slack_by.new.out)) c.steps_of.ensures c.slack_by.ensures.general
