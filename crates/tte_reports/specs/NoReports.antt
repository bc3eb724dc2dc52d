-- What is answered where there is no report.
use Rattle.std.specs.Prelude.{◌<◌, ◌≤◌, Err, List, Ok, Result, [], length, ℕ}
use Rattle.{net_plan.specs.declared.network.Network.Network, tte_forms.specs.networks.Accepting.too_long_answer}
use Rattle.tte_forms.specs.{Answering.Answer, declared.status.Status.TheVariants.{OutOfMemory, ReadFault}}
use Rattle.tte_reports.specs.declared.{no_report.NoReport.NoReport, reading.AuditedReport.AuditedReport}
use Rattle.tte_reports.specs.Answer.{FailsAudit, report_refused_answer}
use Rattle.tte_reports.specs.declared.no_report.NoReport.TheVariants as causes

-- the octets give no report of the network with at most so many, for this cause; a read may fail and memory may run
-- out at any
abbrev pub IsNoReport : ℕ → Network → List ℕ → NoReport → Type 0
IsNoReport limit network octets causes.ReadFault = Unit {0}
IsNoReport limit network octets causes.TooLong = limit < length octets
IsNoReport limit network octets causes.OutOfMemory = Unit {0}
IsNoReport limit network octets (causes.Refused refusal) = (length octets ≤ limit) × FailsAudit network octets refusal

-- what is answered
abbrev pub no_report_answer : NoReport → Answer
no_report_answer causes.ReadFault = record { status = ReadFault; lines = [] }
no_report_answer causes.TooLong = too_long_answer
no_report_answer causes.OutOfMemory = record { status = OutOfMemory; lines = [] }
no_report_answer (causes.Refused refusal) = report_refused_answer refusal

-- the fact holds where the octets were judged: they are a report, or are refused as one
abbrev pub IfJudged : Result AuditedReport NoReport → Type 0 → Type 0
IfJudged (Ok report) P = P
IfJudged (Err (causes.Refused refusal)) P = P
IfJudged (Err cause) P = Unit {0}
