-- What the lines of a picture show of a flow, and what the records tell of it.
use Rattle.std.specs.Prelude.{◌<◌, ◌≡◌, ◌≤◌, ◌⊎◌, List, Some, false, ℕ}
use Rattle.lens_flows.specs.declared.judge.flow.Flow.{Flow}
use Rattle.lens_overview.specs.{Cells.shade_at, Grids.{pen_at, right_of}, Lines.{name_line, ribbon_line}, Shades.is_blank}
use Rattle.lens_overview.specs.declared.{grid.Grid.Grid, label.Label.Label, shade.Shade.Shade}
use Rattle.net_plan.specs.declared.{ids.LinkId.LinkId, network.Network.Network}
use Rattle.run_law.specs.{declared.note.Note.Note, records.Order.IsIn, scenario.Devices.channel_of_link}
use Rattle.tte_units.specs.declared.frames.channel.Channel.{Channel}
use Rattle.lens_overview.specs.declared.label.Label.TheVariants as labels
use Rattle.run_law.specs.declared.note.NoteBody.TheVariants as notes

-- the row is that of the flow, or one of several flows of its virtual link
abbrev pub IsRowOf : Label → Flow → Type 0
IsRowOf label flow = (label ≡ labels.Flow flow.vl flow.device) ⊎ ((count : ℕ) × (label ≡ labels.Flows flow.vl count))

-- a stroke of this shade goes over the column, along the row that is so far down: its line is one of these
pub record HasStroke (network : Network) (grid : Grid) (lines : List (List ℕ)) (label : Label) (y column : ℕ)
    (shade : Shade) : Type 0 where
  pub first : ℕ
  pub last : ℕ
  pub begins : first ≤ column
  pub ends : column < last
  pub line : IsIn (ribbon_line network (record {
    label = label;
    y = y;
    shade = shade;
    from = pen_at grid first;
    to = pen_at grid last;
  })) lines

-- one of these lines is the name of a row of the flow, and along the row a stroke of its shade goes over each of these
-- cells that is not blank
pub record HasRow (network : Network) (grid : Grid) (lines : List (List ℕ)) (flow : Flow) (cells : List Shade)
    : Type 0 where
  pub label : Label
  pub of_flow : IsRowOf label flow
  pub y : ℕ
  pub name : IsIn (name_line network label y (right_of grid)) lines
  pub each : (column : ℕ) → column < grid.columns → is_blank (shade_at cells column) ≡ false
      → HasStroke network grid lines label y column (shade_at cells column)

-- the line is that of a stroke along a row of the flow, whose name is one of these lines; each of the cells that it goes
-- over has its shade, which is not blank, and it goes over some
pub record IsStrokeOf (network : Network) (grid : Grid) (lines : List (List ℕ)) (flow : Flow) (cells : List Shade)
    (line : List ℕ) : Type 0 where
  pub label : Label
  pub of_flow : IsRowOf label flow
  pub y : ℕ
  pub name : IsIn (name_line network label y (right_of grid)) lines
  pub first : ℕ
  pub last : ℕ
  pub shade : Shade
  pub is : line ≡ ribbon_line network (record {
    label = label;
    y = y;
    shade = shade;
    from = pen_at grid first;
    to = pen_at grid last;
  })
  pub some : first < last
  pub seen : is_blank shade ≡ false
  pub each : (column : ℕ) → first ≤ column → column < last → shade_at cells column ≡ shade

-- a record delivers the flow's frame of the cycle, by a link of a channel
pub record IsDeliveredIn (network : Network) (ns : List Note) (flow : Flow) (cycle : ℕ) : Type 0 where
  pub note : Note
  pub there : IsIn note ns
  pub link : LinkId
  pub cause : ℕ
  pub is : note.body ≡ notes.Delivered flow.device link cause flow.vl cycle
  pub channel : Channel
  pub by : channel_of_link network link ≡ Some channel
