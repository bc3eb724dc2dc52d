-- What a picture of one thing keeps.
use Rattle.std.specs.{Option.option_map_or, Prelude.{suc, zero, ℕ, ◌+◌, ◌==◌, ◌||◌, ◌≡◌, Bool, List, None, Option, Some, false}}
use Rattle.std.specs.Prelude.{◌<◌, if◌then◌else◌, length, slice_get, true, unwrap_or}
use Rattle.lens.specs.declared.draw.subject.Subject.{Subject, TheVariants.{Frames, Lane}}
use Rattle.lens_svg.specs.{Bodies.{scene_of, seat_of}, Layout.holds, Sketching.{moment, with_at}, Views.flag_at}
use Rattle.lens_svg.specs.declared.{glance.Glance.Glance, layout.Span.Span}
use Rattle.net_plan.specs.declared.{ids.VlId.VlId, network.Network.Network}
use Rattle.run_law.specs.{declared.note.{Note.Note, NoteBody.NoteBody}, records.Order.IsIn}
use Rattle.run_law.specs.records.{Causes.{GoesBackTo, cause_of}, Happenings.{Happening, happenings, numbered}}
use Rattle.run_law.specs.declared.note.NoteBody.TheVariants as notes

-- by the record a frame of the virtual link is sent
abbrev pub IsSending : VlId → NoteBody → Type 0
IsSending vl (notes.TtSent device link cause of cycle) = of.0 ≡ vl.0
IsSending vl other = ⊥

-- the record's causes go back to one by which a frame of the virtual link is sent
pub record HasSending (hs : List Happening) (h : Happening) (vl : VlId) : Type 0 where
  pub first : Happening
  pub back : GoesBackTo hs h first
  pub sends : IsSending vl first.note.body

-- the record is of the thing: its causes go back to where a frame of the virtual link is sent, or it stands in the
-- device's lane
abbrev pub IsOf : Network → Subject → List Happening → Happening → Type 0
IsOf network (Frames vl) hs h = HasSending hs h vl
IsOf network (Lane device) hs h = seat_of network h.note.body ≡ device.0 + 1

-- the record is kept: it is of the thing, or the causes of one that is go back to it
pub record IsKept (network : Network) (subject : Subject) (hs : List Happening) (h : Happening) : Type 0 where
  pub later : Happening
  pub there : IsIn later hs
  pub of : IsOf network subject hs later
  pub back : GoesBackTo hs later h

-- the flag says whether the fact holds
pub record Tells (flag : Bool) (P : Type 0) : Type 0 where
  pub holds : flag ≡ true → P
  pub told : P → flag ≡ true

-- there is a flag for each record, which says whether it is kept
pub record AreFlags (network : Network) (subject : Subject) (hs : List Happening) (flags : List Bool) : Type 0 where
  pub count : length flags ≡ length hs
  pub each : (number : ℕ) (h : Happening) → numbered hs number ≡ Some h
      → Tells (flag_at flags number) (IsKept network subject hs h)

-- the record lies in the span, has a flag, and stands in the lane of the device at the place
pub record StandsIn (network : Network) (span : Span) (records : List Bool) (note : Note) (place : ℕ) : Type 0 where
  pub within : holds span (moment note) ≡ true
  pub kept : flag_at records note.number ≡ true
  pub at : (scene_of network note.body).0 ≡ place

-- there is a flag for each device, which says whether one of the records stands in its lane
pub record AreLanes (network : Network) (span : Span) (records : List Bool) (ns : List Note) (lanes : List Bool)
    : Type 0 where
  pub count : length lanes ≡ length network.device
  pub each : (place : ℕ) → place < length network.device
      → Tells (unwrap_or (slice_get lanes place) false) ((note : Note) × IsIn note ns × StandsIn network span records note place)

-- ---- how they are found

-- is a frame of the virtual link sent by the record?
abbrev pub is_sending : VlId → NoteBody → Bool
is_sending vl (notes.TtSent device link cause of cycle) = of.0 == vl.0
is_sending vl other = false

-- is a record of the thing, by the flags of those before it?
abbrev pub own_flag : Network → Subject → List Bool → NoteBody → Bool
own_flag network (Frames vl) flags body = is_sending vl body || flag_at flags (cause_of body)
own_flag network (Lane device) flags body = seat_of network body == device.0 + 1

-- of all these records these first ones have flags, which say whether they are of the thing
pub record AreOwn (network : Network) (subject : Subject) (ns before : List Note) (flags : List Bool) : Type 0 where
  pub count : length flags ≡ length before
  pub each : (number : ℕ) (h : Happening) → numbered (happenings network before) number ≡ Some h
      → Tells (flag_at flags number) (IsOf network subject (happenings network ns) h)

-- the flags with that of the record of this number
abbrev pub with_flag : List Bool → ℕ → List Bool
with_flag flags zero = flags
with_flag flags (suc before) = with_at flags before true

-- what was taken of the record of this number, from 1; 0 is the number of none
abbrev pub glance_at : List Glance → ℕ → Option Glance
glance_at glances zero = None
glance_at glances (suc before) = slice_get glances before

-- the cause of the record of this number, or 0
abbrev pub cause_at : List Glance → ℕ → ℕ
cause_at glances number = option_map_or (λ glance. glance.cause) (glance_at glances number) 0

-- the flags with that of the cause of the record of this number, where it has one itself
abbrev pub passed_on : List Glance → ℕ → List Bool → List Bool
passed_on glances number flags = if flag_at flags number then with_flag flags (cause_at glances number) else flags

-- the lanes with that in which the record stands, if it lies in the span
abbrev pub with_lane : Span → Glance → List Bool → List Bool
with_lane span glance lanes = if holds span glance.time then with_at lanes glance.device.0 true else lanes

-- the same for the record of this number, if there is one
abbrev pub lane_at : Span → List Glance → ℕ → List Bool → List Bool
lane_at span glances number lanes =
    option_map_or (λ glance. with_lane span glance lanes) (glance_at glances number) lanes

-- the same, if the record has a flag
abbrev pub lanes_on : Span → List Glance → ℕ → List Bool → List Bool → List Bool
lanes_on span glances number flags lanes = if flag_at flags number then lane_at span glances number lanes else lanes
