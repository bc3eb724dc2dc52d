-- The octets of a file as the report of a run, and what a command over a report answers.
use Rattle.std.specs.{List.concat, Prelude.{◌<◌, ◌≡◌, ◌≤◌, ◌⊎◌, List, length, ℕ}}
use Rattle.{audit_law.specs.events.Readings.clock_reading, net_plan.specs.declared.network.Network.Network}
use Rattle.{net_plan.specs.Ranges.IsInRange, tte_forms.specs.Answering.Answer}
use Rattle.{report_text.specs.{Laws.AreOfNetwork, NoteLine.report_of}, run_law.specs.runs.DueRecords.IsRunOf}
use Rattle.{run_law.specs.declared.note.Note.Note, tte_units.specs.declared.units.Units.Units}
use Rattle.tte_audit.specs.{Report.{IsOfEvents, behind_time, events_of}, declared.refusal.AuditRefusal.AuditRefusal}
use Rattle.{tte_forms.specs.networks.Accepting.too_long_answer, tte_reports.specs.declared.records.Records.Records}
use Rattle.schedule_tables.specs.Rules.{KeepsRules}
use Rattle.tte_reports.specs.Answer.{FailsAudit, audit_limit, audited_answer, report_refused_answer}

-- the octets are the report of these records of the network, whose numbers lie in their ranges: that of the run under
-- the events that they tell, up to this end
pub record IsReportOf (network : Network) (octets : List ℕ) (notes : List Note) (end : Units) : Type 0 where
  pub range : IsInRange network
  pub events : IsOfEvents network octets notes end
  pub run : IsRunOf network (clock_reading network (events_of notes)) (events_of notes) (behind_time end) notes

-- which answers there are for the records of a report of a network, up to their end
abbrev pub AnswersFor : Type 1
AnswersFor = Network → List Note → Units → Answer → Type 0

-- the answer for an accepted network and the octets of a report that is judged, where that for its records is given
abbrev pub IsJudgedAnswer : AnswersFor → List ℕ → Network → Answer → Type 0
IsJudgedAnswer IsAnswerFor octets network a =
    ((refusal : AuditRefusal) × FailsAudit network octets refusal × (a ≡ report_refused_answer refusal))
    ⊎ ((notes : List Note) × (end : Units) × IsReportOf network octets notes end × IsAnswerFor network notes end a)

-- the answer where a report is judged that has at most so many octets
abbrev pub IsReportAnswer : ℕ → AnswersFor → List ℕ → Network → Answer → Type 0
IsReportAnswer limit IsAnswerFor octets network a =
    ((limit < length octets) × (a ≡ too_long_answer))
    ⊎ ((length octets ≤ limit) × IsJudgedAnswer IsAnswerFor octets network a)

-- the answer of an audit for the records of a report: how many they are
abbrev pub IsAuditedAnswer : AnswersFor
IsAuditedAnswer network notes end a = a ≡ audited_answer (length notes)

-- the answer of an audit for an accepted network and the octets of a report
abbrev pub IsAuditAnswer : List ℕ → Network → Answer → Type 0
IsAuditAnswer octets network a = IsReportAnswer audit_limit IsAuditedAnswer octets network a

-- for each network and its report there is one answer at most
abbrev pub IsOneFor : AnswersFor → Type 0
IsOneFor IsAnswerFor =
    (network : Network) (octets : List ℕ) (notes : List Note) (end : Units) (a b : Answer) → KeepsRules network
    → IsReportOf network octets notes end → IsAnswerFor network notes end a → IsAnswerFor network notes end b → a ≡ b

-- the octets are the report of some records
abbrev pub IsSomeReport : Network → List ℕ → Type 0
IsSomeReport network octets = (notes : List Note) × (end : Units) × IsReportOf network octets notes end

-- the octets are the lines of these records of the network
pub record AreLines (network : Network) (octets : List ℕ) (notes : List Note) : Type 0 where
  pub of_network : AreOfNetwork network notes
  pub text : octets ≡ concat (report_of network notes)

-- these records are left to be read
abbrev pub AreLeft : Network → Records → List Note → Type 0
AreLeft network records notes = AreLines network records.rest.now notes
