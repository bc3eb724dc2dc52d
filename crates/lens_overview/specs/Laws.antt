-- What holds of the lines of the picture of a report.
use Rattle.std.specs.Prelude.{◌++◌, ◌-◌, ◌<◌, ◌↔◌, ◌≡◌, ◌≤◌, ◌⊎◌, List, Option, Some, codes, false, length, slice_get, ℕ}
use Rattle.audit_law.specs.events.Readings.{scenario_under}
use Rattle.lens_flows.specs.{declared.judge.flow.Flow.Flow, judge.Flows.IsFlow}
use Rattle.lens_overview.specs.{Answer.IsOverviewAnswer, Cells.{Missed, flow_cells, shade_at}, Grids.{column_of, grid_of, pen_at}}
use Rattle.lens_overview.specs.{LawParts.{HasRow, IsDeliveredIn, IsStrokeOf}, Lines.{bar_line, extent_line, ribbon_line}, Shades.is_blank}
use Rattle.lens_overview.specs.{News.{cycle_of, last_cycle}, Spreads.spread_by}
use Rattle.lens_svg.specs.{Sketching.moment, Titles.{heading_line, title_line, title_of}}
use Rattle.lens_overview.specs.{LawStates.{HasCells, IsStrokeAlong, IsTurn, device_cell, way_cell}, Rows.start_of}
use Rattle.lens_overview.specs.declared.label.Label.TheVariants.{Lane, Others, Passage}
use Rattle.net_plan.specs.declared.{ids.{DeviceId.DeviceId, LinkId.LinkId}, tables.{Device.Device, Way.Way}}
use Rattle.lens_overview.specs.{Telling.news_by, declared.{grid.Grid.Grid, pieces.Ribbon.Ribbon, shade.Shade.Shade}}
use Rattle.{net_plan.specs.declared.network.Network.Network, run_law.specs.declared.note.Note.Note}
use Rattle.{run_law.specs.records.{Happenings.happenings, Order.IsIn}, schedule_tables.specs.Rules.KeepsRules}
use Rattle.tte_audit.specs.Report.{events_of}
use Rattle.tte_units.specs.Amount.{amount}
use Rattle.{tte_forms.specs.Answering.Answer, tte_reports.specs.Reports.IsReportOf}
use Rattle.tte_units.specs.declared.units.Units.{Units}

-- these lines name the picture by the words of the call, show them at its head too, and below them that it is of the whole
-- run, how many records this has, and the precision
pub record HasHead (words : List (List ℕ)) (network : Network) (ns : List Note) (lines : List (List ℕ)) : Type 0 where
  pub title : IsIn (title_line (title_of words)) lines
  pub heading : IsIn (heading_line (title_of words)) lines
  pub extent : IsIn (extent_line (length ns) (amount network.precision)) lines

-- so do those of each picture
abbrev pub HeadIsDrawn : Type 0
HeadIsDrawn =
    (words : List (List ℕ)) (network : Network) (ns : List Note) (end : Units) (a : Answer)
    → IsOverviewAnswer words network ns end a → HasHead words network ns a.lines

-- the columns of the picture of these records
abbrev pub grid_for : Network → List Note → Grid
grid_for network ns = grid_of (last_cycle (news_by network ns ns))

-- the cells of a flow in it, one for each column, where these frames are missing
abbrev pub cells_for : Network → List Note → List Missed → Flow → List Shade
cells_for network ns missed flow =
    let all = news_by network ns ns in
    flow_cells (grid_for network ns) all (last_cycle all) missed flow.vl flow.device

-- in the picture of the report of an accepted network no line is a stroke that says that a frame is owed and missing
abbrev pub NoneIsRed : Type 0
NoneIsRed =
    (words : List (List ℕ)) (network : Network) (octets : List ℕ) (ns : List Note) (end : Units) (a : Answer)
    → KeepsRules network → IsReportOf network octets ns end → IsOverviewAnswer words network ns end a → (line rest : List ℕ) → IsIn line a.lines
    → line ≡ codes "<path class=\"flow missing" ++ rest → ⊥

-- in each picture each flow of the network has its row
abbrev pub FlowsAreDrawn : Type 0
FlowsAreDrawn =
    (words : List (List ℕ)) (network : Network) (ns : List Note) (end : Units) (a : Answer) → (answer : IsOverviewAnswer words network ns end a)
    → (flow : Flow) → IsFlow network flow
    → HasRow network (grid_for network ns) a.lines flow (cells_for network ns answer.missed flow)

-- and each line that is a stroke of frames is one of a flow's
abbrev pub StrokesAreOfFlows : Type 0
StrokesAreOfFlows =
    (words : List (List ℕ)) (network : Network) (ns : List Note) (end : Units) (a : Answer) → (answer : IsOverviewAnswer words network ns end a)
    → (line rest : List ℕ) → IsIn line a.lines → line ≡ codes "<path class=\"flow " ++ rest
    → (flow : Flow) × IsFlow network flow
    × IsStrokeOf network (grid_for network ns) a.lines flow (cells_for network ns answer.missed flow) line

-- in the picture of the report of an accepted network a flow's cell is filled exactly where a record delivers a frame of
-- it in a cycle of the column
abbrev pub CellsAreDelivered : Type 0
CellsAreDelivered =
    (words : List (List ℕ)) (network : Network) (octets : List ℕ) (ns : List Note) (end : Units) (a : Answer)
    → KeepsRules network → IsReportOf network octets ns end → (answer : IsOverviewAnswer words network ns end a) → (flow : Flow) (column : ℕ)
    → (is_blank (shade_at (cells_for network ns answer.missed flow) column) ≡ false)
    ↔ ((cycle : ℕ) × (column_of (grid_for network ns) cycle ≡ column) × IsDeliveredIn network ns flow cycle)

-- how far apart the local clocks of the correct synchronised devices are at the time of the record, once all records of
-- this time have come, if it is one of a correction
abbrev pub spread_of : Network → List Note → Note → Option ℕ
spread_of network ns note =
    spread_by (scenario_under network (events_of ns)) (happenings network ns) (moment note) note.body

-- they are so far apart at a correction of the column, and at none of it further
pub record IsGreatestIn (network : Network) (ns : List Note) (column spread : ℕ) : Type 0 where
  pub note : Note
  pub there : IsIn note ns
  pub among : column_of (grid_for network ns) (cycle_of network note) ≡ column
  pub is : spread_of network ns note ≡ Some spread
  pub greatest : (other : Note) (n : ℕ) → IsIn other ns
      → column_of (grid_for network ns) (cycle_of network other) ≡ column → spread_of network ns other ≡ Some n
      → n ≤ spread

-- the line is the bar of a column, which is at most 36 pixels high, and of the greatest spread of its corrections, which
-- is no greater than the precision
pub record IsTrueBar (network : Network) (ns : List Note) (line : List ℕ) : Type 0 where
  pub column : ℕ
  pub height : ℕ
  pub spread : ℕ
  pub is : line ≡ bar_line (pen_at (grid_for network ns) column) ((grid_for network ns).pitch - 1) height spread
  pub low : height ≤ 36
  pub greatest : IsGreatestIn network ns column spread
  pub close : spread ≤ amount network.precision

-- each bar of the picture of the report of an accepted network is
abbrev pub BarsAreTrue : Type 0
BarsAreTrue =
    (words : List (List ℕ)) (network : Network) (octets : List ℕ) (ns : List Note) (end : Units) (a : Answer)
    → KeepsRules network → IsReportOf network octets ns end → IsOverviewAnswer words network ns end a → (line rest : List ℕ) → IsIn line a.lines
    → line ≡ codes "<path class=\"bar" ++ rest → IsTrueBar network ns line

-- in each picture a device has its row whose state some record changes, and its cells show how the records up to their
-- ends leave it
abbrev pub DevicesAreDrawn : Type 0
DevicesAreDrawn =
    (words : List (List ℕ)) (network : Network) (ns : List Note) (end : Units) (a : Answer) → IsOverviewAnswer words network ns end a
    → (device : DeviceId) (d : Device) (note : Note) → slice_get network.device device.0 ≡ Some d → IsIn note ns
    → IsTurn device note.body
    → HasCells network (grid_for network ns) a.lines (Lane device)
    (device_cell network (grid_for network ns) ns device (start_of d.start))

-- and a way has its row that is cut in a column
abbrev pub WaysAreDrawn : Type 0
WaysAreDrawn =
    (words : List (List ℕ)) (network : Network) (ns : List Note) (end : Units) (a : Answer) → IsOverviewAnswer words network ns end a
    → (link : LinkId) (way : Way) (column : ℕ) → link.0 < length network.link → column < (grid_for network ns).columns
    → is_blank (way_cell network (grid_for network ns) ns link way column) ≡ false
    → HasCells network (grid_for network ns) a.lines (Passage link way)
    (way_cell network (grid_for network ns) ns link way)

-- each line that is a stroke of a device's row is one of such cells, or belongs to the row of the devices whose state no
-- record changes
abbrev pub DeviceStrokesAreTrue : Type 0
DeviceStrokesAreTrue =
    (words : List (List ℕ)) (network : Network) (ns : List Note) (end : Units) (a : Answer)
    → IsOverviewAnswer words network ns end a → (line rest : List ℕ) → IsIn line a.lines
    → line ≡ codes "<path class=\"lane " ++ rest
    → ((device : DeviceId) × (d : Device) × (slice_get network.device device.0 ≡ Some d)
    × IsStrokeAlong network (grid_for network ns) a.lines (Lane device)
    (device_cell network (grid_for network ns) ns device (start_of d.start)) line)
    ⊎ ((ribbon : Ribbon) × (synchronised : ℕ) × (off : ℕ) × (ribbon.label ≡ Others synchronised off)
    × (line ≡ ribbon_line network ribbon))

-- and each that is a stroke of a way's row is one of columns in which it is cut
abbrev pub WayStrokesAreTrue : Type 0
WayStrokesAreTrue =
    (words : List (List ℕ)) (network : Network) (ns : List Note) (end : Units) (a : Answer)
    → IsOverviewAnswer words network ns end a → (line rest : List ℕ) → IsIn line a.lines
    → line ≡ codes "<path class=\"passage " ++ rest
    → (link : LinkId) × (way : Way) × IsStrokeAlong network (grid_for network ns) a.lines (Passage link way)
    (way_cell network (grid_for network ns) ns link way) line
