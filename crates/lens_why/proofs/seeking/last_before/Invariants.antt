use Rattle.std.proofs.Common.{List}
use Rattle.lens_why.{proofs.LastRecords.IsSoughtDownTo, specs.Records.IsThere}
use Rattle.tte_reports.specs.Reports.{IsReportOf}
use Rattle.{run_law.specs.{declared.note.Note.Note, records.Happenings.{Happening, happenings}}, tte_units.specs.declared.units.Units.Units}
use Rattle.lens_why.proofs.seeking.last_before.Given as goal

abbrev pub invariant-records : goal.invariant-records
invariant-records l = (notes : List Note) (end : Units) (h : Happening) → IsReportOf l.network l.report.octets notes end
    → IsThere l.network notes l.number h → IsSoughtDownTo l.network l.sought (happenings l.network notes) h l.at

abbrev pub decreases-records : goal.decreases-records
decreases-records l = l.at
