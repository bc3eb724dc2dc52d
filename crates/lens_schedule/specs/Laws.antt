-- What the lines of the picture say of the schedule.
use Rattle.std.specs.{List.Contains, Prelude.{◌≡◌, ◌≢◌, ◌≤◌, ◌⊎◌, List, pos, ℕ}}
use Rattle.lens_schedule.specs.{Answer.IsScheduleOf, Frames.frame_of, Lines.{frame_line, lane_line}}
use Rattle.lens_schedule.specs.Scale.{scale_of, x_of}
use Rattle.lens_schedule.specs.declared.{lanes.Lane.Lane, scale.Scale.Scale}
use Rattle.lens_svg.specs.declared.element.PicturePoint.{PicturePoint}
use Rattle.{net_plan.specs.{Ranges.IsInRange, declared.network.Network.Network}, schedule_tables.specs.Rules.KeepsRules}
use Rattle.schedule_tables.specs.{Entries.{IsEntry}, Schedule.Coincide, Windows.window_of}
use Rattle.{schedule_tables.specs.declared.entry.Entry.Entry, tte_forms.specs.Answering.Answer}

-- the row has its box and its window among the lines, in the lane of its port, which has a line too
pub record IsShown (network : Network) (entries : List Entry) (lines : List (List ℕ)) (entry : Entry) : Type 0 where
  pub at : PicturePoint
  pub box : Contains lines (frame_line network (frame_of network (scale_of network entries) at entry))
  pub lane : Lane
  pub link : lane.link ≡ entry.row.link
  pub way : lane.way ≡ entry.row.way
  pub of_port : Contains lines (lane_line network lane at)

-- so has each row of a network
abbrev pub RowsAreShown : Type 0
RowsAreShown =
    (words : List (List ℕ)) (network : Network) (a : Answer) → (of : IsScheduleOf words network a)
    → (k : ℕ) (entry : Entry) → IsEntry network k entry → IsShown network of.entries a.lines entry

-- what comes later stands no farther to the left
abbrev pub PlacesGrow : Type 0
PlacesGrow = (scale : Scale) (early late : ℕ) → early ≤ late → x_of scale early ≤ x_of scale late

-- the boxes of two rows of one port that come in one cycle do not overlap, in a network that is accepted
abbrev pub BoxesStandApart : Type 0
BoxesStandApart =
    (network : Network) (scale : Scale) (at : PicturePoint) (j k : ℕ) (first second : Entry)
    → KeepsRules network → IsEntry network j first → IsEntry network k second → j ≢ k
    → first.row.link ≡ second.row.link → first.row.way ≡ second.row.way → Coincide first.vl second.vl
    → ((frame_of network scale at first).port.to ≤ (frame_of network scale at second).port.from)
    ⊎ ((frame_of network scale at second).port.to ≤ (frame_of network scale at first).port.from)

-- the window that is drawn is that of the receiver, in a network that is accepted
abbrev pub WindowsAreThose : Type 0
WindowsAreThose =
    (network : Network) (scale : Scale) (at : PicturePoint) (k : ℕ) (entry : Entry)
    → IsInRange network → KeepsRules network → IsEntry network k entry
    → (pos (frame_of network scale at entry).from ≡ (window_of network entry).from.0)
    × (pos (frame_of network scale at entry).to ≡ (window_of network entry).to.0)
