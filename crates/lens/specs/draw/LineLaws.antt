-- What the lines of the picture of a report draw.
use Rattle.std.specs.Prelude.{◌<◌, ◌∷◌, ◌≡◌, List, None, Option, Some, [], length, ℕ, ⊤}
use Rattle.lens.specs.draw.Picture.{mark_lines, picture_lines, windows_of}
use Rattle.lens_svg.specs.{Clocks.{clocks_in, gauge_of, spread_of}, Layers.{lack_of, on_lane, on_mark}, Marking.mark_line}
use Rattle.lens_svg.specs.{Elements.element_line, Laws.shown, Sketching.plan_of, Titles.{heading_line, title_line}, Windows.box_of}
use Rattle.lens_svg.specs.{Views.View, declared.{clock.Told.Told, element.Element.Element, window.Came.Came}}
use Rattle.lens_svg.specs.declared.{layer.{LaneLayer.LaneLayer, MarkLayer.MarkLayer}, mark.Mark.Mark}
use Rattle.net_plan.specs.declared.network.Network.{Network}
use Rattle.run_law.specs.{declared.note.Note.Note, records.Order.IsIn}

-- the line of the element, if there is one, is one of these
abbrev pub HasLineOf : Network → List (List ℕ) → Option Element → Type 0
HasLineOf network lines (Some element) = IsIn (element_line network element) lines
HasLineOf network lines None = ⊤

-- the picture has the line of all that its plan draws of a device or of a record (its lane's name and ground; the ground
-- that it changes, its instant, how long its frame waited, and the frame's arrow), of the window of each frame that is
-- taken, of each clock that is told, of how far the clocks are apart, and that no record is drawn, where that is so; and
-- its title, as its name and at its head
pub record DrawsPlan (network : Network) (view : View) (notes : List Note) : Type 0 where
  pub lanes : (layer : LaneLayer) (place : ℕ) → place < length network.device
      → HasLineOf network (picture_lines network view notes) (on_lane layer network (plan_of network view notes) place)
  pub marks : (layer : MarkLayer) (mark : Mark) → IsIn mark (plan_of network view notes).marks
      → HasLineOf network (picture_lines network view notes) (on_mark layer network (plan_of network view notes) mark)
  pub windows : (came : Came) → IsIn came (windows_of network view notes)
      → HasLineOf network (picture_lines network view notes) (box_of came)
  pub gauges : (told : Told) → IsIn told (clocks_in view.span notes).told → HasLineOf network (picture_lines network view notes)
      (gauge_of network (plan_of network view notes) (clocks_in view.span notes) told)
  pub lack : HasLineOf network (picture_lines network view notes) (lack_of (plan_of network view notes))
  pub title : IsIn (title_line view.title) (picture_lines network view notes)
  pub heading : IsIn (heading_line view.title) (picture_lines network view notes)
  pub spread : HasLineOf network (picture_lines network view notes) (spread_of network (plan_of network view notes) (clocks_in view.span notes))

-- these are the lines of the marks of records, one after another, each where its mark stands
abbrev pub AreMarkLines : Network → List (List ℕ) → List Mark → List Note → Type 0
AreMarkLines network [] [] [] = Unit {0}
AreMarkLines network (line ∷ lines) (mark ∷ marks) (note ∷ notes) =
    (line ≡ mark_line network mark note) × AreMarkLines network lines marks notes
AreMarkLines network lines marks notes = ⊥

-- each picture has these lines, and those of the marks of the records in the span
abbrev pub PicturesDrawPlans : Type 0
PicturesDrawPlans = (network : Network) (view : View) (notes : List Note) → DrawsPlan network view notes

abbrev pub MarksStandWhereTheirsDo : Type 0
MarksStandWhereTheirsDo =
    (network : Network) (view : View) (notes : List Note)
    → AreMarkLines network (mark_lines network view (plan_of network view notes).marks notes)
    (plan_of network view notes).marks (shown view notes)
