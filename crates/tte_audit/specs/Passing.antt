-- A report that is passed, and what is kept of it.
use Rattle.std.specs.Prelude.{List, ℕ}
use Rattle.{run_law.specs.declared.note.Note.Note, tte_audit.specs.declared.passed_report.PassedReport.PassedReport}
use Rattle.{net_plan.specs.declared.network.Network.Network, tte_audit.specs.Report.{IsOfEvents, events_of}}
use Rattle.{audit_sweep.specs.declared.index.Index.Index, run_law.specs.records.Happenings.happenings}
use Rattle.{audit_sweep.specs.Indexing.IsIndex, tte_units.specs.declared.units.Units.Units}
use Rattle.tte_audit.specs.Answers.{IsAudited}

-- this is what the events and the records show that the octets tell
abbrev pub IsIndexOf : Network → List ℕ → Index → Type 0
IsIndexOf network octets index =
    (notes : List Note) (time : Units) → IsOfEvents network octets notes time
    → IsIndex network (events_of notes) (happenings network notes) index

-- the octets are the report of a run of so many records, and this is what they show
pub record IsPassed (network : Network) (octets : List ℕ) (passed : PassedReport) : Type 0 where
  pub audited : IsAudited network octets passed.count
  pub index : IsIndexOf network octets passed.index
