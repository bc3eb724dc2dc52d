-- What `draw` answers for a report.
use Rattle.std.specs.Prelude.{◌≡◌, ◌++◌, if◌then◌else◌, List, None, ℕ}
use Rattle.{lens.specs.draw.Picture.{back_lines, front_lines, picture_lines}, lens_svg.specs.declared.layout.Span.Span}
use Rattle.lens.specs.{declared.forms.RunPart.RunPart, draw.Spans.span_of}
use Rattle.lens_svg.specs.{Clocks.Clocks, Sketching.{fits, plan_of}, declared.{mark.Mark.Mark, window.Came.Came}}
use Rattle.{run_law.specs.declared.note.Note.Note, tte_forms.specs.Answering.Answer}
use Rattle.lens_svg.specs.{Plan.Plan, Titles.title_of, Views.View}
use Rattle.{net_plan.specs.declared.network.Network.Network, tte_units.specs.declared.units.Units.Units}
use Rattle.tte_forms.specs.{declared.status.Status.TheVariants.Done, networks.Accepting.too_long_answer}

-- the marks and the end of the picture, as an answer
abbrev pub back_answer : Network → View → List Mark → List Note → Answer
back_answer network view marks notes = record { status = Done; lines = back_lines network view marks notes }

-- the picture of this plan, these windows and these clocks, with the marks of these records, as an answer
abbrev pub fitting_answer : Network → Plan → List Came → Clocks → List Note → Answer
fitting_answer network plan windows clocks notes = record {
  status = Done;
  lines = front_lines network plan windows clocks ++ back_lines network plan.view plan.marks notes;
}

-- the answer for the records of a report: their picture, where it is not too wide
abbrev pub draw_answer : Network → View → List Note → Answer
draw_answer network view notes =
    if fits (plan_of network view notes) then record { status = Done; lines = picture_lines network view notes }
    else too_long_answer

abbrev pub IsViewAnswer : View → Network → List Note → Units → Answer → Type 0
IsViewAnswer view network notes end a = a ≡ draw_answer network view notes

-- where all records of a part are drawn, for these words
abbrev pub IsDrawAnswer : List (List ℕ) → Span → Network → List Note → Units → Answer → Type 0
IsDrawAnswer words span network notes end a =
    IsViewAnswer (record { span = span; kept = None; title = title_of words }) network notes end a

-- the answer for a part of the run
abbrev pub IsPartAnswer : List (List ℕ) → RunPart → Network → List Note → Units → Answer → Type 0
IsPartAnswer words part network notes end a = IsDrawAnswer words (span_of network part) network notes end a
