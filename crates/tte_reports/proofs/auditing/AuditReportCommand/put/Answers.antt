use Rattle.{std.proofs.Common.{◌∙◌, ap, inl}, tte_reports.specs.Answer.audited_answer}
use Rattle.tte_reports.proofs.auditing.AuditReportCommand.put.Goals as goal

pub returns-clause-gives : goal.returns-clause-gives
returns-clause-gives g c notes end r =
    let counted = c.count.ensures ∙ c.requires.read.counted notes end r in
    inl (audited_answer c.count.result, ap audited_answer counted, c.put_audited.ensures.gives)
