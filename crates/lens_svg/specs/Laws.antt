-- What holds of pictures.
use Rattle.std.specs.Prelude.{◌≡◌, ◌≢◌, ℕ, ◌+◌, ◌-◌, ◌<◌, ◌≤◌, true, List, [], ◌∷◌, ◌++◌, All, Some, filter, fold, length}
use Rattle.std.specs.Prelude.{map, slice_get, take}
use Rattle.report_text.specs.Ranges.{IsNoteOf}
use Rattle.lens_svg.specs.Bodies.{look_of, own_hue, scene_of, seat_of}
use Rattle.run_law.specs.{declared.note.Note.Note, records.{Causes.cause_of, Order.IsIn}}
use Rattle.lens_svg.specs.{Lanes.start_of, Plan.Plan, Views.View}
use Rattle.lens_svg.specs.{Layers.{is_gone, point_of, way_of}, declared.{element.Element.Element, mark.Ground.Ground}}
use Rattle.lens_svg.specs.{Sketching.{fits, grounds_behind, hues_with, is_drawn, is_told, moment, plan_of}, declared.mark.Hue.Hue}
use Rattle.lens_svg.specs.declared.element.Element.TheVariants.{Way}
use Rattle.{lens_svg.specs.declared.mark.Mark.Mark, net_plan.specs.declared.network.Network.Network}

-- the times of the records never fall, and none is before this time
abbrev pub NeverFall : ℕ → List Note → Type 0
NeverFall time [] = Unit {0}
NeverFall time (note ∷ notes) = (time ≤ moment note) × NeverFall (moment note) notes

-- where the instant of the first mark is earlier, it stands at least 26 pixels further to the left; and where both are of
-- one instant and in one row, at least 14
pub record StandsLeft (earlier later : Mark) : Type 0 where
  pub instants : earlier.time < later.time → earlier.x + 26 ≤ later.x
  pub beside : earlier.time ≡ later.time → earlier.seat ≡ later.seat → earlier.x + 14 ≤ later.x

-- so does each mark to those behind it
abbrev pub AreApart : List Mark → Type 0
AreApart [] = Unit {0}
AreApart (mark ∷ marks) = All (StandsLeft mark) marks × AreApart marks

-- in a picture that fits, the marks stand in the order of their instants, and those of one instant and row side by side
abbrev pub KeepsOrder : Type 0
KeepsOrder =
    (network : Network) (view : View) (notes : List Note) → All (IsNoteOf network) notes → NeverFall 0 notes
    → fits (plan_of network view notes) ≡ true → AreApart (plan_of network view notes).marks

-- the records that are drawn
abbrev pub shown : View → List Note → List Note
shown view notes = filter (is_drawn view) notes

-- the records that the lanes tell of
abbrev pub told : View → List Note → List Note
told view notes = filter (is_told view) notes

-- the mark tells of the record its number, its time, its row, its device, its cause and what it draws
pub record IsMarkOf (network : Network) (mark : Mark) (note : Note) : Type 0 where
  pub number : mark.number ≡ note.number
  pub time : mark.time ≡ moment note
  pub seat : mark.seat ≡ seat_of network note.body
  pub device : mark.device ≡ scene_of network note.body
  pub cause : mark.cause ≡ cause_of note.body
  pub look : mark.look ≡ look_of note.body

-- there is one for each of these records, in their order
abbrev pub AreMarksOf : Network → List Mark → List Note → Type 0
AreMarksOf network [] [] = Unit {0}
AreMarksOf network (mark ∷ marks) (note ∷ notes) = IsMarkOf network mark note × AreMarksOf network marks notes
AreMarksOf network marks notes = ⊥

-- the numbers of the records follow each other from this one on
abbrev pub NumbersFollow : ℕ → List Note → Type 0
NumbersFollow number [] = Unit {0}
NumbersFollow number (note ∷ notes) = (note.number ≡ number) × NumbersFollow (number + 1) notes

-- the arrow from one mark to another
abbrev pub arrow : Mark → Mark → Element
arrow cause mark = Way mark.hue (is_gone mark.look) (point_of cause) (point_of mark)

-- the second mark is of the record that the first one's comes from, and they are at two devices
pub record ComesAcross (mark cause : Mark) : Type 0 where
  pub number : cause.number ≡ mark.cause
  pub apart : cause.device.0 ≢ mark.device.0

-- the way to a mark is an arrow from that of the record that it comes from, at another device, where that is drawn; and
-- else there is none
pub record HasArrows (plan : Plan) : Type 0 where
  pub each : (place : ℕ) (cause mark : Mark) → slice_get plan.marks place ≡ Some cause → ComesAcross mark cause
      → way_of plan mark ≡ Some (arrow cause mark)
  pub only : (mark : Mark) (element : Element) → way_of plan mark ≡ Some element
      → (place : ℕ) × (cause : Mark) × (slice_get plan.marks place ≡ Some cause) × ComesAcross mark cause
      × (element ≡ arrow cause mark)

-- in a picture of records whose numbers follow each other and whose times never fall, there is a mark for each record
-- that is drawn, and an arrow exactly where there is a cause
abbrev pub ArrowsAreCauses : Type 0
ArrowsAreCauses =
    (network : Network) (view : View) (notes : List Note) → NumbersFollow 1 notes → NeverFall 0 notes
    → AreMarksOf network (plan_of network view notes).marks (shown view notes) × HasArrows (plan_of network view notes)

-- the hues of records, one after another, from the run's beginning on
abbrev pub hues_of : List Note → List Hue
hues_of notes = fold (λ hues note. hues_with hues note.body) [] notes

-- the hue of a record is its own where it comes from none, and else that of the earlier one that it comes from
pub record HasCausesHue (front rest : List Note) (note : Note) : Type 0 where
  pub own : cause_of note.body ≡ 0
      → slice_get (hues_of (front ++ note ∷ rest)) (length front) ≡ Some (own_hue note.body)
  pub cause : 1 ≤ cause_of note.body → cause_of note.body ≤ length front
      → slice_get (hues_of (front ++ note ∷ rest)) (length front)
      ≡ slice_get (hues_of (front ++ note ∷ rest)) (cause_of note.body - 1)

abbrev pub HuesComeFromCauses : Type 0
HuesComeFromCauses = (front rest : List Note) (note : Note) → HasCausesHue front rest note

-- each mark has the hue of its record, also where what that comes from lies before the picture
abbrev pub MarksHaveHues : Type 0
MarksHaveHues =
    (network : Network) (view : View) (notes : List Note) → NumbersFollow 1 notes → NeverFall 0 notes
    → (mark : Mark) → IsIn mark (plan_of network view notes).marks
    → slice_get (hues_of notes) (mark.number - 1) ≡ Some mark.hue

-- the grounds of the lanes behind a record
abbrev pub grounds_with : Network → List Ground → Note → List Ground
grounds_with network grounds note = grounds_behind (look_of note.body) (scene_of network note.body).0 grounds

-- behind these records, from the beginning of the run on: as each device begins, and then as its last record leaves it
-- that says its state, or that it breaks
abbrev pub grounds_after : Network → List Note → List Ground
grounds_after network notes = fold (grounds_with network) (map start_of network.device) notes

-- the grounds of the lanes as they are painted from a mark on, over what was there
abbrev pub painted_with : List Ground → Mark → List Ground
painted_with grounds mark = grounds_behind mark.look mark.device.0 grounds

-- where the marks up to that of a record are painted, the lanes' grounds are those behind the records up to it that the
-- lanes tell of
abbrev pub LanesAreStates : Type 0
LanesAreStates =
    (network : Network) (view : View) (front rest : List Note) (note : Note) → NeverFall 0 (front ++ note ∷ rest)
    → is_drawn view note ≡ true
    → fold painted_with (plan_of network view (front ++ note ∷ rest)).grounds
    (take (length (shown view (front ++ note ∷ []))) (plan_of network view (front ++ note ∷ rest)).marks)
    ≡ grounds_after network (told view (front ++ note ∷ []))
