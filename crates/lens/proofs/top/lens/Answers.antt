use Rattle.lens.{proofs.{FormLemmas.{no_usage_for, words_as}, draw_lemmas.Naming.{named_completed, named_safely}}}
use Rattle.lens.specs.{Top.{AnswersReports, AnswersSafely, FailsToRead, TakesFirst, TakesSecond}}
use Rattle.lens.specs.{declared.forms.Form.Form, draw.Naming.IsNamedStatus}
use Rattle.tte_forms.{proofs.Facts.no_usage, specs.Putting.shown_by}
use Rattle.lens.specs.{Forms.form_of, Questions.EndsFor, declared.forms.Form.TheVariants.{DrawNamed, Events, Latency, Least, Plan, Report, Schedule, Sheet, Slack, SlackOf}}
use Rattle.lens_plan.specs.Answer.{IsPlanStatus}
use Rattle.{std.specs.Prelude.Option, tte_forms.specs.{Faults.HasCause, declared.status.Status.Status}}
use Rattle.{std.proofs.Common.{◌≡◌, ◌⊎◌, List, None, Some, inl, inr, rules, subst, ℕ}, tte_forms.specs.networks.Checking.IsCheckStatus}
use Rattle.lens.proofs.top.lens.Goals as goal

pub returns-in-Some-Slack-clause-general : goal.returns-in-Some-Slack-clause-general
returns-in-Some-Slack-clause-general g c =
    let form : Some Slack ≡ form_of c.args.words.now = search rules in
    words_as c.args.words.now form _ _ _ _ _ (no_usage IsCheckStatus _ (λ none. none) c.slack_of_network.ensures.statuses, c.slack_of_network.ensures.general)

pub returns-in-Some-SlackOf-clause-general : goal.returns-in-Some-SlackOf-clause-general
returns-in-Some-SlackOf-clause-general g c =
    let form : Some (SlackOf c.in-Some-SlackOf.rule) ≡ form_of c.args.words.now = search rules in
    words_as c.args.words.now form _ _ _ _ _ (no_usage IsCheckStatus _ (λ none. none) c.slack_of_rule.ensures.statuses, c.slack_of_rule.ensures.general)

pub returns-in-Some-Least-clause-general : goal.returns-in-Some-Least-clause-general
returns-in-Some-Least-clause-general g c =
    let form : Some Least ≡ form_of c.args.words.now = search rules in
    words_as c.args.words.now form _ _ _ _ _ (no_usage IsCheckStatus _ (λ none. none) c.least_of_network.ensures.statuses, c.least_of_network.ensures.general)

pub returns-in-Some-Sheet-clause-general : goal.returns-in-Some-Sheet-clause-general
returns-in-Some-Sheet-clause-general g c =
    let form : Some Sheet ≡ form_of c.args.words.now = search rules in
    words_as c.args.words.now form _ _ _ _ _ (no_usage IsCheckStatus _ (λ none. none) c.sheet_of_network.ensures.statuses, c.sheet_of_network.ensures.general)

pub returns-in-Some-Latency-clause-general : goal.returns-in-Some-Latency-clause-general
returns-in-Some-Latency-clause-general g c =
    let form : Some Latency ≡ form_of c.args.words.now = search rules in
    words_as c.args.words.now form _ _ _ _ _ (no_usage IsCheckStatus _ (λ none. none) c.latency_of_network.ensures.statuses, c.latency_of_network.ensures.general)

pub returns-in-Some-Schedule-clause-general : goal.returns-in-Some-Schedule-clause-general
returns-in-Some-Schedule-clause-general g c =
    let form : Some Schedule ≡ form_of c.args.words.now = search rules in
    words_as c.args.words.now form _ _ _ _ _ (no_usage IsCheckStatus _ (λ none. none) c.schedule_of_network.ensures.statuses, c.schedule_of_network.ensures.general)

pub returns-in-Some-Plan-clause-general : goal.returns-in-Some-Plan-clause-general
returns-in-Some-Plan-clause-general g c =
    let form : Some Plan ≡ form_of c.args.words.now = search rules in
    words_as c.args.words.now form _ _ _ _ _ (no_usage IsPlanStatus _ (λ none. none) c.plan_of_network.ensures.statuses, c.plan_of_network.ensures.general)

pub returns-in-Some-Report-clause-general : goal.returns-in-Some-Report-clause-general
returns-in-Some-Report-clause-general g c =
    let form : Some (Report c.in-Some-Report.question) ≡ form_of c.args.words.now = search rules in
    words_as c.args.words.now form _ _ _ _ _ (
      no_usage (EndsFor c.in-Some-Report.question) _ (no_usage_for c.in-Some-Report.question) c.answer_report.ensures.statuses,
      c.answer_report.ensures.general,
    )

-- what is said of the form is said of the words
faults_as : {f form : Option Form} → f ≡ form → (status : Status) (A B U R P : Type 0) → HasCause status (FailsToRead f A B U R) P
    → HasCause status (FailsToRead form A B U R) P
faults_as {f} {form} same status A B U R P h = subst (λ x. HasCause status (FailsToRead x A B U R) P) same h

takes_as : {f form : Option Form} → f ≡ form → (first after : Option (List ℕ)) (U R M : Type 0) → TakesFirst f first after → TakesSecond f first U R M
    → TakesFirst form first after × TakesSecond form first U R M
takes_as {f} {form} same first after U R M one two =
    subst (λ x. TakesFirst x first after × TakesSecond x first U R M) same (one, two)

reports_as : (words : List (List ℕ)) {f form : Option Form} → f ≡ form → (first second : Option (List ℕ)) (S K : Type 0) (status : Status)
    → AnswersReports words f first second S K status → AnswersReports words form first second S K status
reports_as words {f} {form} same first second S K status h = subst (λ x. AnswersReports words x first second S K status) same h

pub returns-in-Some-DrawNamed-clause-general : goal.returns-in-Some-DrawNamed-clause-general
returns-in-Some-DrawNamed-clause-general g c =
    let same : Some (DrawNamed c.in-Some-DrawNamed.part c.in-Some-DrawNamed.name) ≡ form_of c.args.words.now = search rules in
    let text = c.text.ensures in
    let form : Some (DrawNamed c.in-Some-DrawNamed.part c.text.result.now) ≡ form_of c.args.words.now = cc in
    words_as c.args.words.now form _ _ _ _ _ (no_usage IsNamedStatus _ (λ none. none) c.draw_named.ensures.statuses, c.draw_named.ensures.general)

pub returns-in-Some-DrawNamed-clause-safe : goal.returns-in-Some-DrawNamed-clause-safe
returns-in-Some-DrawNamed-clause-safe g c =
    let same : Some (DrawNamed c.in-Some-DrawNamed.part c.in-Some-DrawNamed.name) ≡ form_of c.args.words.now = search rules in
    let text = c.text.ensures in
    let form : Some (DrawNamed c.in-Some-DrawNamed.part c.text.result.now) ≡ form_of c.args.words.now = cc in
    let first = g.A.Source.left c.args.first.now in
    let second = g.B.Source.left c.args.second.now in
    let shown = shown_by g.K.Sink in
    subst (λ f. AnswersSafely f first second c.draw_named.result) form
    (named_safely c.args.words.now c.in-Some-DrawNamed.part c.text.result.now first second c.draw_named.result (shown c.args.out.now) (shown c.draw_named.new.out)
    c.draw_named.ensures.general)

pub returns-in-Some-DrawNamed-clause-faults : goal.returns-in-Some-DrawNamed-clause-faults
returns-in-Some-DrawNamed-clause-faults g c =
    let same : Some (DrawNamed c.in-Some-DrawNamed.part c.in-Some-DrawNamed.name) ≡ form_of c.args.words.now = search rules in
    faults_as same c.draw_named.result _ _ _ _ _ c.draw_named.ensures.faults

pub returns-in-Some-DrawNamed-clause-takes : goal.returns-in-Some-DrawNamed-clause-takes
returns-in-Some-DrawNamed-clause-takes g c =
    let same : Some (DrawNamed c.in-Some-DrawNamed.part c.in-Some-DrawNamed.name) ≡ form_of c.args.words.now = search rules in
    let text = c.text.ensures in
    let form : Some (DrawNamed c.in-Some-DrawNamed.part c.text.result.now) ≡ form_of c.args.words.now = cc in
    takes_as form (g.A.Source.left c.args.first.now) _ _ _ _ c.draw_named.ensures.takes.0
    (c.draw_named.ensures.takes.1, c.draw_named.ensures.takes.2)

pub returns-in-Some-Report-clause-takes : goal.returns-in-Some-Report-clause-takes
returns-in-Some-Report-clause-takes g c =
    let form : Some (Report c.in-Some-Report.question) ≡ form_of c.args.words.now = search rules in
    takes_as form (g.A.Source.left c.args.first.now) _ _ _ _ c.answer_report.ensures.takes.0 c.answer_report.ensures.takes.1

pub returns-in-Some-Plan-clause-takes : goal.returns-in-Some-Plan-clause-takes
returns-in-Some-Plan-clause-takes g c =
    let form : Some Plan ≡ form_of c.args.words.now = search rules in
    takes_as form (g.A.Source.left c.args.first.now) _ _ _ _ c.plan_of_network.ensures.takes.0 c.plan_of_network.ensures.takes.1

-- a read that failed raised one of the counts
read_rose : {F U V T W : Type 0} → (F × U × V) ⊎ (T × W) → F ⊎ T
read_rose (inl h) = inl h.0
read_rose (inr h) = inr h.0

pub returns-in-Some-DrawNamed-clause-complete : goal.returns-in-Some-DrawNamed-clause-complete
returns-in-Some-DrawNamed-clause-complete g c =
    let same : Some (DrawNamed c.in-Some-DrawNamed.part c.in-Some-DrawNamed.name) ≡ form_of c.args.words.now = search rules in
    let text = c.text.ensures in
    let form : Some (DrawNamed c.in-Some-DrawNamed.part c.text.result.now) ≡ form_of c.args.words.now = cc in
    let first = g.A.Source.left c.args.first.now in
    let second = g.B.Source.left c.args.second.now in
    let shown = shown_by g.K.Sink in
    reports_as c.args.words.now form first second _ _ c.draw_named.result
    (named_completed c.args.words.now c.in-Some-DrawNamed.part c.text.result.now first second c.draw_named.result (shown c.args.out.now) (shown c.draw_named.new.out) _ _
    c.draw_named.ensures.general (λ e. read_rose (c.draw_named.ensures.faults.read e)) c.draw_named.ensures.faults.write)

pub returns-in-Some-Events-clause-general : goal.returns-in-Some-Events-clause-general
returns-in-Some-Events-clause-general g c =
    let form : Some (Events c.in-Some-Events.seed c.in-Some-Events.cycles) ≡ form_of c.args.words.now = search rules in
    words_as c.args.words.now form _ _ _ _ _ (no_usage IsCheckStatus _ (λ none. none) c.storm_events.ensures.statuses, c.storm_events.ensures.general)

pub returns-in-None-clause-general : goal.returns-in-None-clause-general
returns-in-None-clause-general g c =
    let form : None ≡ form_of c.args.words.now = search rules in
    words_as c.args.words.now form _ _ _ _ _ c.put_usage.ensures.gives
