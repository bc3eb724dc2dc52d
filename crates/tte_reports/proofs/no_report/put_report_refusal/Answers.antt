use Rattle.{std.proofs.Common.{◌∙◌, ◌≡◌, subst, sym}, tte_forms.specs.Answering.{Gives, line_answer}, tte_reports.specs.Answer.report_refused_answer}
use Rattle.{tte_audit.specs.declared.refusal.AuditRefusal.AuditRefusal, tte_forms.specs.declared.status.Status.{Status, TheVariants.AuditRefused}}
use Rattle.{tte_forms.specs.Putting.{Shown, shown_by}, tte_reports.specs.AuditLine.lack_line}
use Rattle.tte_reports.proofs.no_report.put_report_refusal.Goals as goal

-- the answer about one refusal under two names
same_refusal : {r refusal : AuditRefusal} {status : Status} {old new : Shown} → r ≡ refusal → Gives (report_refused_answer refusal) status old new
    → Gives (report_refused_answer r) status old new
same_refusal {r} {refusal} {status} {old} {new} is g = subst (λ x. Gives (report_refused_answer x) status old new) (sym is) g

pub returns-in-Form-clause-gives : goal.returns-in-Form-clause-gives
returns-in-Form-clause-gives g c = same_refusal c.in-Form.is c.put_record_refusal.ensures.gives

pub returns-in-Events-clause-gives : goal.returns-in-Events-clause-gives
returns-in-Events-clause-gives g c = same_refusal c.in-Events.is c.put_record_refusal-in-Events.ensures.gives

pub returns-in-Unfounded-clause-gives : goal.returns-in-Unfounded-clause-gives
returns-in-Unfounded-clause-gives g c = same_refusal c.in-Unfounded.is c.put_record_refusal-in-Unfounded.ensures.gives

pub returns-in-Lacking-clause-gives : goal.returns-in-Lacking-clause-gives
returns-in-Lacking-clause-gives g c =
    let old = shown_by g.K.Sink c.args.out.now in
    let new = shown_by g.K.Sink c.put_last.new.out in
    let line : c.as_slice.result.now ≡ lack_line c.in-Lacking.time = c.as_slice.ensures ∙ c.make_lack_line.ensures in
    same_refusal c.in-Lacking.is (subst (λ bytes. Gives (line_answer AuditRefused bytes) c.put_last.result old new) line c.put_last.ensures.gives)
