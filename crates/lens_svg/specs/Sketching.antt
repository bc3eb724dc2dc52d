-- How the plan of a picture grows record by record.
use Rattle.std.specs.Prelude.{is_some, option_and_then, slice_get, slice_set, unsigned_abs, unwrap_or, ℕ}
use Rattle.std.specs.Prelude.{◌++◌, ◌-◌, ◌==◌, ◌||◌, ◌∷◌, Bool, List, None, Option, Some, [], if◌then◌else◌, length, map, nat_le, nat_lt}
use Rattle.lens_svg.specs.declared.{layout.Side.TheVariants.{Before, Behind, Passed, Within}, mark.Look.TheVariants.Turned}
use Rattle.lens_svg.specs.declared.{layout.{Pen.Pen, Side.Side}, mark.{Ground.Ground, Look.Look}}
use Rattle.lens_svg.specs.{Lanes.{start_of, y_of}, Plan.Plan, declared.{glance.Glance.Glance, mark.{Hue.Hue, Mark.Mark}}}
use Rattle.lens_svg.specs.{Bodies.{look_of, own_hue, scene_of, seat_of}, Layout.{moved, pen_at, reached, side_of, stand}}
use Rattle.lens_svg.specs.{Layout.{is_within, widest, width_of}, Views.{View, is_kept, side_if}}
use Rattle.net_plan.specs.declared.tables.Device.{Device}
use Rattle.net_plan.specs.declared.network.Network.{Network}
use Rattle.run_law.specs.{declared.note.{Note.Note, NoteBody.NoteBody}, records.Causes.cause_of}

-- the world time of a record
abbrev pub moment : Note → ℕ
moment note = unsigned_abs note.time.0

-- what a picture takes of a record
abbrev pub glance_of : Network → Note → Glance
glance_of network note = record {
  number = note.number;
  time = moment note;
  device = scene_of network note.body;
  seat = seat_of network note.body;
  cause = cause_of note.body;
  hue = own_hue note.body;
  look = look_of note.body;
}

-- where the record of this number and time is to what is drawn
abbrev pub side_at : View → ℕ → ℕ → Side
side_at view number time = side_if (is_kept view.kept number) (side_of view.span time)

abbrev pub side_in : View → Note → Side
side_in view note = side_at view note.number (moment note)

-- the record is drawn
abbrev pub is_drawn : View → Note → Bool
is_drawn view note = is_within (side_in view note)

-- the lanes tell of the record: it is kept, or lies before the part
abbrev pub is_told : View → Note → Bool
is_told view note = is_kept view.kept note.number || nat_lt (moment note) view.span.from

-- how far to the right the last mark of each row stands where there is none: of the events, and of each device
abbrev pub no_marks_in : List Device → List ℕ
no_marks_in devices = 0 ∷ map (λ d. 0) devices

-- the plan before the first record
abbrev pub begun : Network → View → Plan
begun network view = record {
  view = view;
  pen = pen_at view.span.from;
  last = 0;
  seats = no_marks_in network.device;
  hues = [];
  places = [];
  marks = [];
  grounds = map start_of network.device;
}

-- the list with another element at this place, if there is such a place
abbrev pub with_at : {X : Type 0} → List X → ℕ → X → List X
with_at xs place x = if nat_lt place (length xs) then slice_set xs place x else xs

-- the grounds behind a record that draws this
abbrev pub grounds_behind : Look → ℕ → List Ground → List Ground
grounds_behind (Turned shade) place grounds = with_at grounds place shade
grounds_behind look place grounds = grounds

-- the hue of a record of this cause: that of the one that it comes from, if it comes from one, and else its own
abbrev pub hue_from : List Hue → ℕ → Hue → Hue
hue_from hues cause own = if cause == 0 then own else unwrap_or (slice_get hues (cause - 1)) own

abbrev pub hue_of : List Hue → NoteBody → Hue
hue_of hues body = hue_from hues (cause_of body) (own_hue body)

-- the hues of records with one more
abbrev pub hues_with : List Hue → NoteBody → List Hue
hues_with hues body = hues ++ hue_of hues body ∷ []

-- how many marks there were before each record, with one more record
abbrev pub places_with : Plan → List ℕ
places_with plan = plan.places ++ length plan.marks ∷ []

-- the plan behind a record that draws nothing
abbrev pub noted : Plan → Glance → Plan
noted plan glance = record plan {
  hues = plan.hues ++ hue_from plan.hues glance.cause glance.hue ∷ [];
  places = places_with plan;
}

-- the plan behind a record before the picture
abbrev pub turned : Plan → Glance → Plan
turned plan glance = record plan {
  hues = plan.hues ++ hue_from plan.hues glance.cause glance.hue ∷ [];
  places = places_with plan;
  grounds = grounds_behind glance.look glance.device.0 plan.grounds;
}

-- the mark, if it is of the record of this number
abbrev pub if_of : ℕ → Mark → Option Mark
if_of number mark = if mark.number == number then Some mark else None

-- the mark of the record of this number, if it is drawn: it stands behind those that there were before that record
abbrev pub mark_at : Plan → ℕ → Option Mark
mark_at plan number =
    option_and_then (if_of number) (option_and_then (slice_get plan.marks) (slice_get plan.places (number - 1)))

-- how far to the right the last mark of a row stands, or 0
abbrev pub last_in : List ℕ → ℕ → ℕ
last_in seats seat = unwrap_or (slice_get seats seat) 0

abbrev pub seated : Plan → ℕ → ℕ → Plan
seated plan seat x = record plan { seats = with_at plan.seats seat x }

-- the mark of a record where the pen is
abbrev pub mark_by : Network → Plan → Pen → Glance → Mark
mark_by network plan pen glance = record {
  number = glance.number;
  time = glance.time;
  x = stand pen (last_in plan.seats glance.seat);
  first = nat_lt plan.last pen.x;
  seat = glance.seat;
  device = glance.device;
  y = y_of network plan.view.kept glance.device;
  cause = glance.cause;
  linked = is_some (mark_at plan glance.cause);
  hue = hue_from plan.hues glance.cause glance.hue;
  look = glance.look;
}

abbrev pub mark_of : Network → Plan → Pen → Note → Mark
mark_of network plan pen note = mark_by network plan pen (glance_of network note)

-- the plan behind a record of the picture
abbrev pub drawn_by : Network → Plan → Glance → Plan
drawn_by network plan glance =
    let pen = moved plan.pen glance.time in
    let mark = mark_by network plan pen glance in
    record plan {
      pen = reached pen mark.x;
      last = pen.x;
      seats = with_at plan.seats mark.seat mark.x;
      hues = plan.hues ++ hue_from plan.hues glance.cause glance.hue ∷ [];
      places = places_with plan;
      marks = plan.marks ++ mark ∷ [];
    }

abbrev pub drawn : Network → Plan → Note → Plan
drawn network plan note = drawn_by network plan (glance_of network note)

-- the plan behind a record that is before the picture, in it, passed over, or behind it
abbrev pub took_by : Side → Network → Plan → Glance → Plan
took_by Before network plan glance = turned plan glance
took_by Within network plan glance = drawn_by network plan glance
took_by Passed network plan glance = noted plan glance
took_by Behind network plan glance = plan

-- the plan behind a record of which the picture takes this
abbrev pub took_glance : Network → Plan → Glance → Plan
took_glance network plan glance = took_by (side_at plan.view glance.number glance.time) network plan glance

abbrev pub took_at : Side → Network → Plan → Note → Plan
took_at side network plan note = took_by side network plan (glance_of network note)

-- the plan behind a record
abbrev pub took : Network → Plan → Note → Plan
took network plan note = took_glance network plan (glance_of network note)

-- the plan behind records, one after another
abbrev pub plan_behind : Network → Plan → List Note → Plan
plan_behind network plan [] = plan
plan_behind network plan (note ∷ notes) = plan_behind network (took network plan note) notes

-- the plan of the picture of what is drawn of a run
abbrev pub plan_of : Network → View → List Note → Plan
plan_of network view notes = plan_behind network (begun network view) notes

-- the picture is no wider than one may be
abbrev pub fits : Plan → Bool
fits plan = nat_le (width_of plan.pen) widest
