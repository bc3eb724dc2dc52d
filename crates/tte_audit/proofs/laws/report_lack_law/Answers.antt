use Rattle.tte_audit.proofs.ReportLacks.{report_lack_law}
use Rattle.tte_audit.proofs.laws.report_lack_law.Goals as goal

pub returns : goal.returns
returns c = report_lack_law
