use Rattle.lens_slack.{proofs.Files.{answered_network, answered_unread}, specs.least.Answer.{IsLeastOf, with_late}}
use Rattle.{std.proofs.Common.{subst}, tte_forms.specs.{Answering.GivesAnswer, Putting.shown_by}}
use Rattle.lens_slack.proofs.least.answering.least_of_network.Goals as goal

pub returns-in-Ok-clause-general : goal.returns-in-Ok-clause-general
returns-in-Ok-clause-general g c =
    let old = shown_by g.K.Sink c.args.out.now in
    let new = shown_by g.K.Sink c.put_least_of.new.out in
    let gives = subst (λ n. GivesAnswer (IsLeastOf n) c.put_least_of.result old new) c.with_late.ensures.late c.put_least_of.ensures.gives in
    answered_network (λ n. IsLeastOf (with_late n)) (g.A.Source.left c.args.source.now) c.in-Ok.network
    c.put_least_of.result
    c.in-Ok.ensures.read gives

pub returns-in-Err-clause-general : goal.returns-in-Err-clause-general
returns-in-Err-clause-general g c =
    let shown = shown_by g.K.Sink in
    answered_unread (λ n. IsLeastOf (with_late n)) (g.A.Source.left c.args.source.now) c.in-Err.cause
    c.put_no_network.result c.in-Err.ensures.none c.put_no_network.ensures.gives c.put_no_network.ensures.unput
