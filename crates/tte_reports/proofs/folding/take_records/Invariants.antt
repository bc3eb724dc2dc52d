use Rattle.{std.proofs.Common.{List, length}, tte_reports.specs.{Folding.IsTakenSoFar, Reports.IsReportOf}}
use Rattle.{run_law.specs.declared.note.Note.Note, tte_units.specs.declared.units.Units.Units}
use Rattle.tte_reports.proofs.folding.take_records.Given as goal

-- the records so far were taken
abbrev pub invariant-records : goal.invariant-records
invariant-records g l = (notes : List Note) (end : Units) → IsReportOf l.network l.report.octets notes end
    → IsTakenSoFar g.T.RecordTaker.holds l.network notes l.fn.taker l.taker l.records

abbrev pub decreases-records : goal.decreases-records
decreases-records g l = length l.records.rest.now
