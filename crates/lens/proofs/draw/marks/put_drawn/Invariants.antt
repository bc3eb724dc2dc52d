use Rattle.{lens.specs.draw.Picture.found_lines, run_law.specs.declared.note.Note.Note, std.proofs.Common.{◌≡◌, List, take}}
use Rattle.{tte_forms.specs.Putting.{PutsLines, shown_by}, tte_reports.specs.Reports.IsReportOf, tte_units.specs.declared.units.Units.Units}
use Rattle.lens.proofs.draw.marks.put_drawn.Given as goal

abbrev pub invariant-drawn : goal.invariant-drawn
invariant-drawn g l = record {
  puts : (notes : List Note) (end : Units) → IsReportOf l.network l.report.octets notes end
      → PutsLines (found_lines l.network notes (take l.mark-index l.marks)) (shown_by g.K.Sink l.fn.out) (shown_by g.K.Sink l.out);
  quiet : g.K.Sink.faults l.out ≡ g.K.Sink.faults l.fn.out;
}
