-- The lines of a picture.
use Rattle.std.specs.Prelude.{ℕ, ℤ, zero, suc, ◌+◌, if◌then◌else◌, List, [], ◌∷◌, ◌++◌, Option}
use Rattle.std.specs.Prelude.{Some, None, drop, flat_map, length}
use Rattle.lens.specs.declared.draw.putting.Layer.TheVariants.{Caption, Gauges, Heading, Lack, Lanes, Marks, Opening, Shared, Spread}
use Rattle.lens.specs.declared.draw.putting.Layer.{Layer, TheVariants.{Title, Windows}}
use Rattle.lens.specs.declared.draw.signs.Sign.TheVariants.{Arrows, Backdrop, MarkKey, Shapes, Style, WayKey}
use Rattle.lens_svg.specs.declared.layer.LaneLayer.TheVariants.{Grounds, Rails}
use Rattle.lens_svg.specs.declared.layer.MarkLayer.TheVariants.{Ticks, Turns, Waits, Ways}
use Rattle.{lens.specs.draw.Signs.{close_line, sign_line}, run_law.specs.records.Happenings.happenings}
use Rattle.lens_svg.specs.{Clocks.{Clocks, clocks_in, gauge_of, spread_of}, Layers.{lack_of, on_lane, on_mark, opening_of}}
use Rattle.{lens_svg.specs.{Elements.element_line, Plan.Plan}, run_law.specs.declared.note.Note.Note}
use Rattle.lens_svg.specs.{Marking.mark_line, Titles.{heading_line, title_line}, Views.View, declared.mark.Mark.Mark}
use Rattle.lens_svg.specs.Windows.{box_of, windows_in}
use Rattle.lens_svg.specs.{Sketching.{is_drawn, plan_of}, declared.window.Came.Came}
use Rattle.lens_svg.specs.declared.{element.Element.Element, layer.{LaneLayer.LaneLayer, MarkLayer.MarkLayer}}
use Rattle.{audit_sweep.specs.Indexing.clock_at, tte_audit.specs.Report.scenario_of, tte_reports.specs.Places.note_at}
use Rattle.net_plan.specs.declared.{ids.DeviceId.DeviceId, network.Network.Network}
use Rattle.lens_svg.specs.declared.element.Element.TheVariants as elements

-- the line of something that is drawn, if there is anything
abbrev pub some_line : Network → Option Element → List (List ℕ)
some_line network (Some element) = element_line network element ∷ []
some_line network None = []

-- the lines of so many places, from this one on
abbrev pub lines_from : (ℕ → List (List ℕ)) → ℕ → ℕ → List (List ℕ)
lines_from lines_at place zero = []
lines_from lines_at place (suc n) = lines_at place ++ lines_from lines_at (place + 1) n

-- something of each device
abbrev pub lanes_lines : Network → Plan → LaneLayer → List (List ℕ)
lanes_lines network plan layer =
    lines_from (λ place. some_line network (on_lane layer network plan place)) 0 (length network.device)

-- something of each record that is drawn
abbrev pub marks_lines : Network → Plan → MarkLayer → List (List ℕ)
marks_lines network plan layer = flat_map (λ mark. some_line network (on_mark layer network plan mark)) plan.marks

-- each clock that is told
abbrev pub gauges_lines : Network → Plan → Clocks → List (List ℕ)
gauges_lines network plan clocks = flat_map (λ told. some_line network (gauge_of network plan clocks told)) clocks.told

-- each window of a frame that was taken
abbrev pub windows_lines : Network → List Came → List (List ℕ)
windows_lines network windows = flat_map (λ came. some_line network (box_of came)) windows

-- a part of the picture
abbrev pub layer_lines : Network → Plan → List Came → Clocks → Layer → List (List ℕ)
layer_lines network plan windows clocks Opening = element_line network (opening_of network plan) ∷ []
layer_lines network plan windows clocks Title = title_line plan.view.title ∷ []
layer_lines network plan windows clocks (Shared sign) = sign_line sign ∷ []
layer_lines network plan windows clocks Heading = heading_line plan.view.title ∷ []
layer_lines network plan windows clocks Caption = element_line network (elements.Caption plan.view.span (length plan.marks)) ∷ []
layer_lines network plan windows clocks (Lanes layer) = lanes_lines network plan layer
layer_lines network plan windows clocks (Marks layer) = marks_lines network plan layer
layer_lines network plan windows clocks Windows = windows_lines network windows
layer_lines network plan windows clocks Gauges = gauges_lines network plan clocks
layer_lines network plan windows clocks Spread = some_line network (spread_of network plan clocks)
layer_lines network plan windows clocks Lack = some_line network (lack_of plan)

-- the parts below the marks, in their order
abbrev pub layers : List Layer
layers =
    Opening ∷ Title ∷ Shared Style ∷ Shared Arrows ∷ Shared Shapes ∷ Shared Backdrop ∷ Heading ∷ Shared MarkKey
    ∷ Shared WayKey ∷ Caption ∷ Lanes Grounds ∷ Marks Turns ∷ Marks Ticks ∷ Lanes Rails ∷ Marks Waits ∷ Marks Ways
    ∷ Windows ∷ Gauges ∷ Spread ∷ Lack ∷ []

-- all that is below the marks
abbrev pub front_lines : Network → Plan → List Came → Clocks → List (List ℕ)
front_lines network plan windows clocks = flat_map (λ layer. layer_lines network plan windows clocks layer) layers

-- the line of the first of these marks, if there is one, for a record
abbrev pub first_line : Network → List Mark → Note → List (List ℕ)
first_line network [] note = []
first_line network (mark ∷ marks) note = mark_line network mark note ∷ []

-- a record has a line where it is drawn
abbrev pub marks_of : Network → View → List Mark → Note → List (List ℕ)
marks_of network view marks note = if is_drawn view note then first_line network marks note else []

-- and the first of these marks is then its own
abbrev pub marks_behind : View → List Mark → Note → List Mark
marks_behind view marks note = if is_drawn view note then drop 1 marks else marks

-- the lines of records, one after another, of which those that are drawn have these marks
abbrev pub mark_lines : Network → View → List Mark → List Note → List (List ℕ)
mark_lines network view marks [] = []
mark_lines network view marks (note ∷ notes) =
    marks_of network view marks note ++ mark_lines network view (marks_behind view marks note) notes

-- the line of a mark by its record, if that was found
abbrev pub found_line : Network → Mark → Option Note → List (List ℕ)
found_line network mark (Some note) = mark_line network mark note ∷ []
found_line network mark None = []

-- the lines of these marks, where each finds its record among these by its number
abbrev pub found_lines : Network → List Note → List Mark → List (List ℕ)
found_lines network notes marks = flat_map (λ mark. found_line network mark (note_at notes mark.number)) marks

-- the marks and the end of the picture
abbrev pub back_lines : Network → View → List Mark → List Note → List (List ℕ)
back_lines network view marks notes = mark_lines network view marks notes ++ close_line ∷ []

-- what the local clocks of a run show when something comes to a device at a time
abbrev pub clocks_of : Network → List Note → DeviceId → ℕ → ℤ
clocks_of network notes = clock_at (scenario_of network notes) (happenings network notes)

-- where in their windows the frames came that are taken in what is drawn of a run
abbrev pub windows_of : Network → View → List Note → List Came
windows_of network view notes = windows_in network (clocks_of network notes) (plan_of network view notes).marks

-- the picture of what is drawn of a run
abbrev pub picture_lines : Network → View → List Note → List (List ℕ)
picture_lines network view notes =
    front_lines network (plan_of network view notes) (windows_of network view notes) (clocks_in view.span notes)
    ++ back_lines network view (plan_of network view notes).marks notes
