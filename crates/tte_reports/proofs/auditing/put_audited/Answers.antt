use Rattle.{std.proofs.Common.{◌∙◌, ◌≡◌, subst}, tte_forms.specs.{Answering.{Gives, line_answer}, declared.status.Status.TheVariants.Done}}
use Rattle.{tte_forms.specs.Putting.shown_by, tte_reports.specs.AuditLine.audited_line}
use Rattle.tte_reports.proofs.auditing.put_audited.Goals as goal

pub returns-clause-gives : goal.returns-clause-gives
returns-clause-gives g c =
    let old = shown_by g.K.Sink c.args.out.now in
    let new = shown_by g.K.Sink c.put_last.new.out in
    let line : c.as_slice.result.now ≡ audited_line c.args.count = c.as_slice.ensures ∙ c.make_audited_line.ensures in
    subst (λ bytes. Gives (line_answer Done bytes) c.put_last.result old new) line c.put_last.ensures.gives
