-- The rows of a picture, from the top.
use Rattle.std.specs.{List.list_any, Option.option_map_or}
use Rattle.std.specs.Prelude.{◌&&◌, ◌+◌, ◌++◌, ◌-◌, ◌==◌, ◌∷◌, Bool, List, None, Option, Some, [], false, flat_map, fold}
use Rattle.std.specs.Prelude.{if◌then◌else◌, length, replicate, slice_get, suc, zero, ℕ}
use Rattle.lens_flows.specs.declared.judge.flow.Flow.{Flow}
use Rattle.lens_overview.specs.Cells.{Missed, cells_of, flow_cells, is_alike, is_any}
use Rattle.lens_overview.specs.{Labels.{is_of_vl, with_receiver}, Ranges.all_below}
use Rattle.lens_overview.specs.declared.{grid.Grid.Grid, label.{Group.Group, Kind.Kind, Label.Label}, news.{Change.Change, News.News}}
use Rattle.lens_overview.specs.declared.{cells.Run.Run, rows.Calm.Calm, shade.Shade.Shade}
use Rattle.net_plan.specs.declared.{ids.{DeviceId.DeviceId, VlId.VlId}, network.Network.Network}
use Rattle.tte_units.specs.declared.units.Units.{Units}
use Rattle.lens_overview.specs.declared.label.Group.TheVariants as groups
use Rattle.lens_overview.specs.declared.label.Kind.TheVariants as kinds
use Rattle.lens_overview.specs.declared.label.Label.TheVariants as labels
use Rattle.lens_overview.specs.declared.news.Change.TheVariants as changes
use Rattle.lens_overview.specs.declared.shade.Shade.TheVariants as shades
use Rattle.net_plan.specs.declared.tables.Way.TheVariants as ways

-- a row: what it shows, and a cell for each column
pub record Row : Type 0 where
  pub label : Label
  pub cells : List Shade

-- what the rows are made of: what the records tell, the last cycle, and the columns
pub record ToldSoFar : Type 0 where
  pub news : List News
  pub last : ℕ
  pub grid : Grid

-- the same, where it is at hand
abbrev pub told_by : Run → ToldSoFar
told_by run = record { news = run.news.now; last = run.last; grid = run.grid }

-- a row without cells
abbrev pub title_row : Group → List Row
title_row group = record { label = labels.Title group; cells = [] } ∷ []

-- the row of what is shown, if a cell of it is filled
abbrev pub filled_row : ToldSoFar → Label → List Row
filled_row told label =
    let cells = cells_of told.grid told.news label shades.Blank in
    if is_any cells then record { label = label; cells = cells } ∷ [] else []

-- a device with a local clock is synchronised where a run begins, the others are off
abbrev pub start_of : Option Units → Shade
start_of (Some units) = shades.Synchronised
start_of None = shades.Off

-- the record leaves the device in another state
abbrev pub is_turn : DeviceId → Change → Bool
is_turn device (changes.Turns other shade) = other.0 == device.0
is_turn device change = false

-- some record does
abbrev pub is_turned : List News → DeviceId → Bool
is_turned all device = list_any (λ news. is_turn device news.change) all

-- the row of the device at the place, if its state changes
abbrev pub lane_at : Network → ToldSoFar → ℕ → List Row
lane_at network told place =
    let label = labels.Lane (record { 0 = place }) in
    option_map_or (λ d. if is_turned told.news (record { 0 = place })
    then record { label = label; cells = cells_of told.grid told.news label (start_of d.start) } ∷ [] else [])
    (slice_get network.device place) []

-- how many devices are synchronised from the start on, and how many are off
abbrev pub with_calm : Calm → Option Units → Calm
with_calm calm (Some units) = record calm { synchronised = calm.synchronised + 1 }
with_calm calm None = record calm { off = calm.off + 1 }

-- of the first so many devices those whose state never changes
abbrev pub calm_below : Network → List News → ℕ → Calm
calm_below network all zero = record { synchronised = 0; off = 0 }
calm_below network all (suc n) =
    let calm = calm_below network all n in
    option_map_or (λ d. if is_turned all (record { 0 = n }) then calm else with_calm calm d.start)
    (slice_get network.device n) calm

-- the row of these others, if there are any
abbrev pub others_row : ToldSoFar → Calm → List Row
others_row told calm =
    if calm.synchronised == 0 && calm.off == 0 then []
    else record {
      label = labels.Others calm.synchronised calm.off;
      cells = replicate (told.grid.columns - 1 + 1) (if calm.synchronised == 0 then shades.Off else shades.Synchronised);
    } ∷ []

-- the rows of the devices
abbrev pub lane_rows : Network → ToldSoFar → List Row
lane_rows network told =
    let count = length network.device in
    all_below (lane_at network told) count ++ others_row told (calm_below network told.news count)

-- the rows of both ways of the link at the place, where they are cut
abbrev pub passages_at : ToldSoFar → ℕ → List Row
passages_at told place =
    filled_row told (labels.Passage (record { 0 = place }) ways.Up)
    ++ filled_row told (labels.Passage (record { 0 = place }) ways.Down)

abbrev pub passage_rows : Network → ToldSoFar → List Row
passage_rows network told = all_below (passages_at told) (length network.link)

-- the row is one of the virtual link, with such cells
abbrev pub is_like : VlId → List Shade → Row → Bool
is_like vl cells row = is_of_vl row.label vl && is_alike row.cells cells

-- the row with one receiver more
abbrev pub raised : Row → Row
raised row = record row { label = with_receiver row.label }

-- a flow joins the first row of its virtual link with such cells, or has a row of its own
abbrev pub joined : Flow → List Shade → List Row → List Row
joined flow cells [] = record { label = labels.Flow flow.vl flow.device; cells = cells } ∷ []
joined flow cells (row ∷ rows) =
    if is_like flow.vl cells row then raised row ∷ rows
    else row ∷ joined flow cells rows

-- rows, and below them those of flows, of which these frames are missing
abbrev pub with_flows : ToldSoFar → List Missed → List Row → List Flow → List Row
with_flows told missed rows flows =
    fold (λ rows flow. joined flow (flow_cells told.grid told.news told.last missed flow.vl flow.device) rows) rows flows

-- what may become of a frame that does not come where it should
abbrev pub losses : List Kind
losses =
    kinds.Lost ∷ kinds.Off ∷ kinds.ColdStart ∷ kinds.Domain ∷ kinds.Member ∷ kinds.Old ∷ kinds.Gate ∷ kinds.Cycle
    ∷ kinds.Unsynchronised ∷ kinds.Unknown ∷ kinds.Length ∷ kinds.Early ∷ kinds.Late ∷ kinds.Repeat ∷ kinds.Refused ∷ []

-- the rows of the counts of these kinds, where there are any
abbrev pub count_rows : ToldSoFar → List Kind → List Row
count_rows told kinds = flat_map (λ kind. filled_row told (labels.Count kind)) kinds

-- the rows above those of flows, from the top: the events, the states, and the cut ways
abbrev pub upper_rows : Network → ToldSoFar → List Row
upper_rows network told =
    filled_row told (labels.Count kinds.Event) ++ title_row groups.States ++ lane_rows network told
    ++ title_row groups.Ways ++ passage_rows network told ++ title_row groups.Flows

-- all rows: below those what was delivered, and what was lost or dropped
abbrev pub rows_of : Network → ToldSoFar → List Missed → List Flow → List Row
rows_of network told missed flows =
    with_flows told missed (upper_rows network told) flows ++ title_row groups.Losses ++ count_rows told losses
