-- What `audit` answers for the octets of a network file and of a report.
use Rattle.std.specs.Prelude.{List, [], codes, ℕ}
use Rattle.{net_plan.specs.Ranges.IsInRange, tte_audit.specs.Laws.IsOfReport}
use Rattle.{net_plan.specs.declared.network.Network.Network, tte_audit.specs.declared.refusal.AuditRefusal.AuditRefusal}
use Rattle.tte_audit.specs.Answers.{IsRefusedBy}
use Rattle.tte_forms.specs.{Answering.{Answer, line_answer}, Statuses.IsNetworkStatus}
use Rattle.tte_forms.specs.declared.status.Status.{Status, TheVariants.{AuditRefused, Done, OutOfMemory}}
use Rattle.tte_reports.specs.AuditLine.{audited_line, lack_line, record_refusal_line}
use Rattle.tte_audit.specs.declared.refusal.AuditRefusal.TheVariants as refusals

-- how many octets a report has at most for `audit`
abbrev pub audit_limit : ℕ
audit_limit = 16777216

-- the octets are refused by this as a report of the network, whose numbers lie in their ranges
pub record FailsAudit (network : Network) (octets : List ℕ) (refusal : AuditRefusal) : Type 0 where
  pub range : IsInRange network
  pub of_report : IsOfReport refusal
  pub refused : IsRefusedBy network octets refusal

-- the answer for a report of a run
abbrev pub audited_answer : ℕ → Answer
audited_answer count = line_answer Done (audited_line count)

-- the answer for a report that is refused by this; want of memory is told by the status alone
abbrev pub report_refused_answer : AuditRefusal → Answer
report_refused_answer (refusals.Form n) = line_answer AuditRefused (record_refusal_line n (codes "form"))
report_refused_answer (refusals.Events n) = line_answer AuditRefused (record_refusal_line n (codes "events"))
report_refused_answer (refusals.Unfounded n) = line_answer AuditRefused (record_refusal_line n (codes "unfounded"))
report_refused_answer (refusals.Lacking t) = line_answer AuditRefused (lack_line t)
report_refused_answer refusals.OutOfMemory = record { status = OutOfMemory; lines = [] }

-- the statuses of `audit`
abbrev pub IsAuditStatus : Status → Type 0
IsAuditStatus AuditRefused = Unit {0}
IsAuditStatus other = IsNetworkStatus other
