use Rattle.{std.proofs.Common.{◌∙◌, Err, ap, inl, inr}, tte_forms.specs.Putting.shown_by, tte_reports.proofs.Answers.no_network_status}
use Rattle.tte_reports.proofs.{Reports.{completed, files_safely}, Sources.{files_accepted, files_refused}}
use Rattle.tte_reports.{specs.Reports.IsReportAnswer}
use Rattle.tte_reports.proofs.commands.answer_report.Goals as goal

pub returns-in-Ok-clause-general : goal.returns-in-Ok-clause-general
returns-in-Ok-clause-general g c =
    let shown = shown_by g.K.Sink in
    files_accepted (IsReportAnswer c.args.limit (g.C.ReportCommand.answers c.args.command.now)) (g.A.Source.left c.args.first.now) (g.B.Source.left c.args.second.now)
    c.in-Ok.accepted c.answer_accepted.result (shown c.args.out.now) (shown c.answer_accepted.new.out) c.in-Ok.ensures.accepted c.answer_accepted.ensures.gives

pub returns-in-Err-clause-general : goal.returns-in-Err-clause-general
returns-in-Err-clause-general g c =
    let shown = shown_by g.K.Sink in
    files_refused (IsReportAnswer c.args.limit (g.C.ReportCommand.answers c.args.command.now)) (g.A.Source.left c.args.first.now) (g.B.Source.left c.args.second.now)
    c.in-Err.cause c.put_no_network.result (shown c.args.out.now) (shown c.put_no_network.new.out) c.in-Err.ensures.none c.put_no_network.ensures.gives
    c.put_no_network.ensures.unput

pub returns-in-Ok-clause-safe : goal.returns-in-Ok-clause-safe
returns-in-Ok-clause-safe g c =
    let shown = shown_by g.K.Sink in
    files_safely c.args.limit (g.C.ReportCommand.answers c.args.command.now) (g.A.Source.left c.args.first.now) (g.B.Source.left c.args.second.now) c.answer_accepted.result
    (shown c.args.out.now) (shown c.answer_accepted.new.out) (returns-in-Ok-clause-general g c)

pub returns-in-Err-clause-safe : goal.returns-in-Err-clause-safe
returns-in-Err-clause-safe g c =
    let shown = shown_by g.K.Sink in
    files_safely c.args.limit (g.C.ReportCommand.answers c.args.command.now) (g.A.Source.left c.args.first.now) (g.B.Source.left c.args.second.now) c.put_no_network.result
    (shown c.args.out.now) (shown c.put_no_network.new.out) (returns-in-Err-clause-general g c)

pub returns-in-Err-clause-statuses : goal.returns-in-Err-clause-statuses
returns-in-Err-clause-statuses g c =
    let shown = shown_by g.K.Sink in
    g.met.C.ReportCommand.audits c.args.command.now c.put_no_network.result
    (no_network_status c.in-Err.cause c.put_no_network.result (shown c.args.out.now) (shown c.put_no_network.new.out) c.put_no_network.ensures.gives)

-- the network was accepted, so the second file may have been read
pub returns-in-Ok-clause-takes : goal.returns-in-Ok-clause-takes
returns-in-Ok-clause-takes g c =
    (c.in-Ok.ensures.taken, inr (c.in-Ok.accepted, c.in-Ok.ensures.accepted, c.answer_accepted.ensures.taken))

pub returns-in-Ok-clause-complete : goal.returns-in-Ok-clause-complete
returns-in-Ok-clause-complete g c =
    let shown = shown_by g.K.Sink in
    completed c.args.limit (g.C.ReportCommand.answers c.args.command.now) (g.A.Source.left c.args.first.now) (g.B.Source.left c.args.second.now) c.answer_accepted.result
    (shown c.args.out.now) (shown c.answer_accepted.new.out) _ _ (returns-in-Ok-clause-general g c) (λ e. inr (c.answer_accepted.ensures.cause.read e).0)
    c.answer_accepted.ensures.cause.write

pub returns-in-Err-clause-complete : goal.returns-in-Err-clause-complete
returns-in-Err-clause-complete g c =
    let shown = shown_by g.K.Sink in
    completed c.args.limit (g.C.ReportCommand.answers c.args.command.now) (g.A.Source.left c.args.first.now) (g.B.Source.left c.args.second.now) c.put_no_network.result
    (shown c.args.out.now) (shown c.put_no_network.new.out) _ _ (returns-in-Err-clause-general g c)
    (λ e. inl (c.accept.ensures.read (c.in-Err.is ∙ ap Err (c.put_no_network.ensures.read e)))) c.put_no_network.ensures.write
