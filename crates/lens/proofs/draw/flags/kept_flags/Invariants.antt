use Rattle.lens.{proofs.draw_lemmas.Keeping.IsSpread}
use Rattle.lens.{specs.{declared.draw.subject.Subject.Subject, draw.Keeping.{AreLanes, AreOwn}}}
use Rattle.{lens_svg.specs.Sketching.glance_of, run_law.specs.declared.note.Note.Note, std.proofs.Common.{◌≡◌, List, drop, map, ℕ}}
use Rattle.{tte_reports.specs.Reports.IsReportOf, tte_units.specs.declared.units.Units.Units}
use Rattle.lens.proofs.draw.flags.kept_flags.Given as goal

abbrev pub decreases-records : goal.decreases-records
decreases-records l = l.number

-- the lanes are those of the records behind this number
abbrev pub invariant-records : goal.invariant-records
invariant-records l =
    (subject : Subject) (octets : List ℕ) (notes : List Note) (end : Units) → IsReportOf l.network octets notes end
    → AreOwn l.network subject notes notes l.fn.own.items → l.glances ≡ map (glance_of l.network) notes
    → IsSpread l.network subject notes l.number l.flags.records.items
    × AreLanes l.network l.span l.flags.records.items (drop l.number notes) l.flags.lanes.items
