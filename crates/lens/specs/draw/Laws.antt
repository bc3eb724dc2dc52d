-- What holds of the picture of a report.
use Rattle.std.specs.Prelude.{◌≡◌, ℕ, ◌-◌, true, List, [], ◌∷◌, ◌++◌, Some, fold, length, slice_get, take}
use Rattle.{lens.specs.draw.Picture.mark_lines, lens_svg.specs.Views.View}
use Rattle.lens_svg.specs.Laws.{AreApart, AreMarksOf, HasArrows, grounds_after, hues_of, painted_with, shown, told}
use Rattle.{lens_svg.specs.declared.mark.Mark.Mark, run_law.specs.records.Order.IsIn}
use Rattle.{lens_svg.specs.Marking.head_text, tte_units.specs.declared.units.Units.Units}
use Rattle.{lens_svg.specs.Sketching.{fits, is_drawn, plan_of}, net_plan.specs.declared.network.Network.Network}
use Rattle.{run_law.specs.declared.note.Note.Note, tte_reports.specs.Reports.IsReportOf}

-- there is a line for each record, which begins with its number and its own line as the title
abbrev pub HaveTitles : Network → List (List ℕ) → List Note → Type 0
HaveTitles network [] [] = Unit {0}
HaveTitles network (line ∷ lines) (note ∷ notes) =
    ((rest : List ℕ) × (line ≡ head_text network note ++ rest)) × HaveTitles network lines notes
HaveTitles network lines notes = ⊥

-- what the picture of a part of a run shows: the titles of the marks are the lines of the records there, in their
-- order; where it fits, earlier instants stand further to the left, and marks of one instant and row side by side; there
-- is a mark for each record, of the hue of the record where its frame began, and an arrow exactly where there is a cause
-- at another device; and from each mark on, a lane's ground is what the records up to there leave the device in, where
-- they are kept or lie before the part
pub record ShowsRun (network : Network) (view : View) (notes : List Note) : Type 0 where
  pub titles : HaveTitles network (mark_lines network view (plan_of network view notes).marks notes) (shown view notes)
  pub order : fits (plan_of network view notes) ≡ true → AreApart (plan_of network view notes).marks
  pub marks : AreMarksOf network (plan_of network view notes).marks (shown view notes)
  pub hues : (mark : Mark) → IsIn mark (plan_of network view notes).marks
      → slice_get (hues_of notes) (mark.number - 1) ≡ Some mark.hue
  pub arrows : HasArrows (plan_of network view notes)
  pub lanes : (front rest : List Note) (note : Note) → notes ≡ front ++ note ∷ rest → is_drawn view note ≡ true
      → fold painted_with (plan_of network view notes).grounds
      (take (length (shown view (front ++ note ∷ []))) (plan_of network view notes).marks)
      ≡ grounds_after network (told view (front ++ note ∷ []))

-- the picture of each part of the run of a report shows it
abbrev pub PicturesShowRuns : Type 0
PicturesShowRuns =
    (network : Network) (view : View) (octets : List ℕ) (notes : List Note) (end : Units)
    → IsReportOf network octets notes end → ShowsRun network view notes
