use Rattle.std.proofs.Common.{◌∙◌}
use Rattle.tte_reports.proofs.Reports.{begun_lines}
use Rattle.tte_reports.proofs.reading.AuditedReport.records.Goals as goal

pub returns : goal.returns
returns c network notes end h =
    let lines = begun_lines h.events.text in
    record { of_network = lines.of_network; text = c.as_slice.ensures ∙ lines.text }
