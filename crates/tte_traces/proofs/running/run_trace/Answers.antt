use Rattle.tte_traces.{specs.Safely.{IsReportToFault, IsWholeReport}}
use Rattle.tte_traces.proofs.{Ends.trace_given}
use Rattle.tte_traces.proofs.Runs.{report_safe, safely_accepted, safely_refused, trace_answers_exist}
use Rattle.tte_traces.proofs.Words.{IsRunAnswer, refl, report_lines, shown_by}
use Rattle.tte_forms.{proofs.networks.Answers.{files_accepted, files_refused}, specs.networks.{Accepting.refusal_lines, NetworkLine.IsRefusalText}}
use Rattle.tte_traces.proofs.running.run_trace.Goals as goal

pub returns-in-Ok-clause-general : goal.returns-in-Ok-clause-general
returns-in-Ok-clause-general g c =
    files_accepted refusal_lines IsRunAnswer (g.A.Source.left c.args.first.now) (g.B.Source.left c.args.second.now) c.in-Ok.accepted c.run_network.result _ _
    c.in-Ok.ensures.accepted
    (trace_given (λ trace. IsRunAnswer trace c.in-Ok.accepted) (g.B.Source.left c.args.second.now) c.run_network.result _ _
    (λ trace. trace_answers_exist report_lines c.in-Ok.accepted trace c.in-Ok.ensures.range)
    c.run_network.ensures.ends.general)

pub returns-in-Err-clause-general : goal.returns-in-Err-clause-general
returns-in-Err-clause-general g c =
    files_refused refusal_lines IsRunAnswer (g.A.Source.left c.args.first.now) (g.B.Source.left c.args.second.now) c.in-Err.cause c.put_no_network.result _ _
    c.in-Err.ensures.none c.put_no_network.ensures.gives c.put_no_network.ensures.unput

pub returns-in-Ok-clause-safe : goal.returns-in-Ok-clause-safe
returns-in-Ok-clause-safe g c =
    let n = c.in-Ok.accepted in
    safely_accepted IsWholeReport IsReportToFault IsRefusalText refusal_lines (λ reason. (reason, refl)) (g.A.Source.left c.args.first.now)
    (g.B.Source.left c.args.second.now) c.run_network.result _ _ n (λ trace. IsRunAnswer trace n)
    (λ octets trace a m is. report_safe IsRefusalText c.in-Ok.ensures.range m is) c.in-Ok.ensures.accepted
    (trace_given (λ trace. IsRunAnswer trace n) (g.B.Source.left c.args.second.now) c.run_network.result _ _
    (λ trace. trace_answers_exist report_lines n trace c.in-Ok.ensures.range) c.run_network.ensures.ends.general)

pub returns-in-Err-clause-safe : goal.returns-in-Err-clause-safe
returns-in-Err-clause-safe g c =
    safely_refused IsWholeReport IsReportToFault IsRefusalText refusal_lines (λ reason. (reason, refl)) (g.A.Source.left c.args.first.now)
    (g.B.Source.left c.args.second.now) c.put_no_network.result (shown_by g.K.Sink c.args.out.now) (shown_by g.K.Sink c.put_no_network.new.out) c.in-Err.cause
    c.put_no_network.ensures.gives
