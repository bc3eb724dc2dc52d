-- A command over a report: what it is given, and what each one does with its two files.
use Rattle.std.specs.Prelude.{◌≡◌, ◌≤◌, ◌⊎◌, List, None, Option, Some, length, ℕ}
use Rattle.{audit_sweep.specs.Indexing.IsIndex, tte_reports.specs.Reports.{AnswersFor, IsReportOf, IsSomeReport}}
use Rattle.{run_law.specs.records.Happenings.happenings, tte_reports.specs.declared.reading.AuditedReport.AuditedReport}
use Rattle.{tte_audit.specs.Report.events_of, tte_reports.specs.Places.ArePlaces}
use Rattle.{net_plan.specs.declared.network.Network.Network, run_law.specs.declared.note.Note.Note}
use Rattle.tte_forms.specs.{Answering.Answer, declared.status.Status.{Status, TheVariants.OutOfMemory}}
use Rattle.{tte_forms.specs.networks.Accepting.MeansAccepted, tte_units.specs.declared.units.Units.Units}

-- the report was read and audited over the network
pub record IsRead (network : Network) (report : AuditedReport) : Type 0 where
  pub some : IsSomeReport network report.octets
  pub placed : (notes : List Note) (end : Units) → IsReportOf network report.octets notes end
      → ArePlaces network report.octets notes report.places.items
  pub counted : (notes : List Note) (end : Units) → IsReportOf network report.octets notes end
      → report.count ≡ length notes
  pub index : (notes : List Note) (end : Units) → IsReportOf network report.octets notes end
      → IsIndex network (events_of notes) (happenings network notes) report.index

-- a report of an accepted network, with at most so many octets, was answered to its end, unless memory ran out
abbrev pub AnswersWhole : ℕ → AnswersFor → List ℕ → List ℕ → Status → Type 0
AnswersWhole limit IsAnswerFor octets report status =
    (network : Network) (notes : List Note) (end : Units) → MeansAccepted octets network → length report ≤ limit
    → IsReportOf network report notes end
    → (status ≡ OutOfMemory) ⊎ ((a : Answer) × IsAnswerFor network notes end a × (status ≡ a.status))

-- so it was, where the octets are told and no count of faults rose
abbrev pub CompletesReport : ℕ → AnswersFor → Option (List ℕ) → Option (List ℕ) → Type 0 → Type 0 → Status → Type 0
CompletesReport limit IsAnswerFor (Some octets) (Some report) SourceRose SinkRose status =
    (SourceRose → ⊥) → (SinkRose → ⊥) → AnswersWhole limit IsAnswerFor octets report status
CompletesReport limit IsAnswerFor first second SourceRose SinkRose status = Unit {0}
