use Rattle.tte_forms.specs.Putting.{shown_by}
use Rattle.tte_reports.proofs.{Answers.judged_by, Reports.{no_report_answered, report_given}}
use Rattle.tte_reports.proofs.commands.answer_accepted.Goals as goal

pub returns-in-Ok-clause-gives : goal.returns-in-Ok-clause-gives
returns-in-Ok-clause-gives g c =
    let shown = shown_by g.K.Sink in
    report_given c.args.limit (g.C.ReportCommand.answers c.args.command.now) c.args.accepted.now (g.B.Source.left c.args.second.now) c.in-Ok.report.octets
    c.answer_read.result (shown c.args.out.now) (shown c.answer_read.new.out) c.in-Ok.ensures.judged c.answer_read.ensures.gives

pub returns-in-Err-clause-gives : goal.returns-in-Err-clause-gives
returns-in-Err-clause-gives g c =
    let shown = shown_by g.K.Sink in
    no_report_answered c.args.limit (g.C.ReportCommand.answers c.args.command.now) c.args.accepted.now (g.B.Source.left c.args.second.now) c.in-Err.cause
    c.put_no_report.result c.in-Err.ensures.judged c.put_no_report.ensures.gives c.put_no_report.ensures.unput

pub returns-in-Err-clause-statuses : goal.returns-in-Err-clause-statuses
returns-in-Err-clause-statuses g c = g.met.C.ReportCommand.audits c.args.command.now c.put_no_report.result c.put_no_report.ensures.statuses

pub returns-in-Ok-clause-taken : goal.returns-in-Ok-clause-taken
returns-in-Ok-clause-taken g c = record { some = c.in-Ok.ensures.taken; whole = λ s. c.in-Ok.ensures.whole }

pub returns-in-Err-clause-taken : goal.returns-in-Err-clause-taken
returns-in-Err-clause-taken g c =
    let shown = shown_by g.K.Sink in
    record {
      some = c.in-Err.ensures.taken;
      whole = λ s. judged_by c.in-Err.cause c.put_no_report.result (shown c.args.out.now) (shown c.put_no_report.new.out) _
          c.put_no_report.ensures.gives s c.in-Err.ensures.whole;
    }
