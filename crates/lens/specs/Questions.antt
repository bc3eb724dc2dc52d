-- What is answered for what is asked of a report.
use Rattle.std.specs.Prelude.{List, ℕ}
use Rattle.lens.specs.{declared.forms.Question.Question, draw.Answer.IsPartAnswer}
use Rattle.lens.specs.declared.forms.Question.TheVariants.{Clocks, Draw, DrawWhole, Flows, LatencySeen, Page, Why}
use Rattle.{lens_flows.specs.Answer.IsFlowsAnswer, lens_latency.specs.Answer.IsLatencyReport}
use Rattle.lens_clocks.specs.Answer.{IsClocksAnswer}
use Rattle.{lens_overview.specs.Answer.IsOverviewAnswer, lens_page.specs.Answer.IsPageAnswer}
use Rattle.tte_reports.specs.{Answer.IsAuditStatus, Reports.AnswersFor}
use Rattle.{lens_why.specs.Answer.{IsWhyAnswer, IsWhyStatus, why_audits}, tte_forms.specs.declared.status.Status.Status}

-- the answer for the records of a report, of which only a picture shows the words
abbrev pub IsQuestionAnswer : List (List ℕ) → Question → AnswersFor
IsQuestionAnswer words (Why number) = IsWhyAnswer number
IsQuestionAnswer words DrawWhole = IsOverviewAnswer words
IsQuestionAnswer words (Draw part) = IsPartAnswer words part
IsQuestionAnswer words Page = IsPageAnswer
IsQuestionAnswer words Flows = IsFlowsAnswer
IsQuestionAnswer words LatencySeen = IsLatencyReport
IsQuestionAnswer words Clocks = IsClocksAnswer

-- the statuses with which it ends: only `why` may refuse a number
abbrev pub EndsFor : Question → Status → Type 0
EndsFor (Why number) status = IsWhyStatus status
EndsFor other status = IsAuditStatus status

-- it may end as an audit does
pub ends_as_audit : (question : Question) (status : Status) → IsAuditStatus status → EndsFor question status
ends_as_audit (Why number) status h = why_audits status h
ends_as_audit other status h = h
