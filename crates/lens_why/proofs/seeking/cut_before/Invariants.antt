use Rattle.std.proofs.Common.{◌≤◌, List}
use Rattle.lens_why.{proofs.Cutting.IsCutUpTo, specs.Records.IsThere}
use Rattle.tte_reports.specs.Reports.{IsReportOf}
use Rattle.{run_law.specs.{declared.note.Note.Note, records.Happenings.{Happening, happenings}}, tte_units.specs.declared.units.Units.Units}
use Rattle.lens_why.proofs.seeking.cut_before.Given as goal

abbrev pub invariant-records : goal.invariant-records
invariant-records l = record {
  some : 1 ≤ l.at;
  so : (notes : List Note) (end : Units) (h : Happening) → IsReportOf l.network l.report.octets notes end → IsThere l.network notes l.number h
      → IsCutUpTo l.link l.way (happenings l.network notes) l.number l.at l.since;
}
