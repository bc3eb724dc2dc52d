-- What can be read from the picture of a report.
use Rattle.std.specs.Prelude.{◌≡◌, ℕ, All, List, map}
use Rattle.{lens.specs.draw.Picture.picture_lines, lens_svg.specs.{Marking.IsPlain, Views.View}}
use Rattle.{lens_svg.specs.Laws.shown, report_text.specs.NoteLine.note_text, run_law.specs.declared.note.Note.Note}
use Rattle.{net_plan.specs.declared.network.Network.Network, tte_units.specs.declared.units.Units.Units}
use Rattle.tte_reports.specs.Reports.{IsReportOf}

-- the line of each record in the span of a report holds neither `<` nor `&`, so as a title it is read as it is
abbrev pub TitlesArePlain : Type 0
TitlesArePlain =
    (network : Network) (view : View) (octets : List ℕ) (notes : List Note) (end : Units)
    → IsReportOf network octets notes end → All (λ note. IsPlain (note_text network note)) (shown view notes)

-- where two reports have one picture, be it of two networks and of two spans, they have the same lines there
abbrev pub PicturesAreOne : Type 0
PicturesAreOne =
    (network other : Network) (view part : View) (octets report : List ℕ) (notes more : List Note) (end last : Units)
    → IsReportOf network octets notes end → IsReportOf other report more last
    → picture_lines network view notes ≡ picture_lines other part more
    → map (note_text network) (shown view notes) ≡ map (note_text other) (shown part more)
