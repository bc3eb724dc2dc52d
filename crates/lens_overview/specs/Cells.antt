-- The cells of a row.
use Rattle.std.specs.Prelude.{◌&&◌, ◌*◌, ◌+◌, ◌-◌, ◌==◌, ◌++◌, ◌∷◌, Bool, List, [], drop, false, fold}
use Rattle.std.specs.Prelude.{if◌then◌else◌, length, not, replicate, slice_get, take, true, unwrap_or, ℕ}
use Rattle.std.specs.List.{list_any}
use Rattle.lens_overview.specs.{Grids.column_of, Labels.is_kind, Ranges.each_below}
use Rattle.lens_overview.specs.Shades.{delivered, is_blank, is_same, more, repeated, worse}
use Rattle.lens_overview.specs.declared.{grid.Grid.Grid, label.Label.Label, news.{Change.Change, Copied.Copied, News.News}}
use Rattle.{lens_overview.specs.declared.shade.Shade.Shade, lens_svg.specs.Sketching.with_at}
use Rattle.net_plan.specs.declared.{ids.{DeviceId.DeviceId, LinkId.LinkId, VlId.VlId}, tables.Way.Way}
use Rattle.lens_overview.specs.declared.label.Label.TheVariants as labels
use Rattle.lens_overview.specs.declared.news.Change.TheVariants as changes
use Rattle.lens_overview.specs.declared.shade.Shade.TheVariants as shades
use Rattle.net_plan.specs.declared.tables.Way.TheVariants as ways

-- the shade of a cell, or none where there is no such cell
abbrev pub shade_at : List Shade → ℕ → Shade
shade_at cells place = unwrap_or (slice_get cells place) shades.Blank

-- from this cell on they have another shade
abbrev pub filled_from : List Shade → ℕ → Shade → List Shade
filled_from cells from shade = take from cells ++ replicate (length cells - from) shade

-- the lane of a device: from the column on it has the state that a record leaves the device in
abbrev pub turned : DeviceId → ℕ → Change → List Shade → List Shade
turned device column (changes.Turns other shade) cells =
    if other.0 == device.0 then filled_from cells column shade else cells
turned device column change cells = cells

-- they are one way
abbrev pub is_way : Way → Way → Bool
is_way ways.Up ways.Up = true
is_way ways.Up ways.Down = false
is_way ways.Down ways.Up = false
is_way ways.Down ways.Down = true

-- they are one way of one link
abbrev pub is_same_way : LinkId → Way → LinkId → Way → Bool
is_same_way link way other of = link.0 == other.0 && is_way way of

-- a way: it is cut from the column on of its cut, up to that in which it heals
abbrev pub cut : LinkId → Way → ℕ → Change → List Shade → List Shade
cut link way column (changes.Cuts other of) cells =
    if is_same_way link way other of then filled_from cells column shades.Cut else cells
cut link way column (changes.Heals other of) cells =
    if is_same_way link way other of then filled_from cells (column + 1) shades.Blank else cells
cut link way column change cells = cells

-- the copy is one of the virtual link, at the receiver
abbrev pub is_of : VlId → DeviceId → Copied → Bool
is_of vl device copied = copied.vl.0 == vl.0 && copied.device.0 == device.0

-- the frames of a virtual link at a receiver, a cell for each cycle: that of the frame's cycle
abbrev pub seen : VlId → DeviceId → Change → List Shade → List Shade
seen vl device (changes.Delivers copied) cells =
    if is_of vl device copied
    then with_at cells copied.cycle (delivered (shade_at cells copied.cycle) copied.channel) else cells
seen vl device (changes.Repeats copied) cells =
    if is_of vl device copied
    then with_at cells copied.cycle (repeated (shade_at cells copied.cycle) copied.channel) else cells
seen vl device change cells = cells

-- the cells of a row behind a record that tells this
abbrev pub taken : Grid → Label → List Shade → News → List Shade
taken grid (labels.Count kind) cells news =
    let column = column_of grid news.cycle in
    if is_kind kind news.kind then with_at cells column (more (shade_at cells column)) else cells
taken grid (labels.Lane device) cells news = turned device (column_of grid news.cycle) news.change cells
taken grid (labels.Passage link way) cells news = cut link way (column_of grid news.cycle) news.change cells
taken grid (labels.Flow vl device) cells news = seen vl device news.change cells
taken grid label cells news = cells

-- so many cells and one more, which begin with this shade, behind all records
abbrev pub filled : Grid → List News → Label → Shade → ℕ → List Shade
filled grid all label start before = fold (taken grid label) (replicate (before + 1) start) all

-- the cells of a row, one for each column
abbrev pub cells_of : Grid → List News → Label → Shade → List Shade
cells_of grid all label start = filled grid all label start (grid.columns - 1)

-- the cells of the cycles of a column
abbrev pub in_column : Grid → List Shade → ℕ → List Shade
in_column grid each column = take grid.cycles (drop (grid.cycles * column) each)

-- the worst of cells
abbrev pub worst : List Shade → Shade
worst cells = fold worse shades.Blank cells

-- of a cell for each cycle one for each column: the worst
abbrev pub narrowed : Grid → List Shade → List Shade
narrowed grid each = each_below (λ column. worst (in_column grid each column)) grid.columns

-- the frame of a virtual link that is missing at a receiver in a cycle
pub record Missed : Type 0 where
  pub vl : VlId
  pub device : DeviceId
  pub cycle : ℕ

-- the cells with those that are missing
abbrev pub with_missed : VlId → DeviceId → List Missed → List Shade → List Shade
with_missed vl device missed cells =
    fold (λ cells m. if m.vl.0 == vl.0 && m.device.0 == device.0 then with_at cells m.cycle shades.Missing else cells)
    cells missed

-- the cells of a virtual link's frames at a receiver, up to the last cycle, of which these are missing
abbrev pub flow_cells : Grid → List News → ℕ → List Missed → VlId → DeviceId → List Shade
flow_cells grid all last missed vl device =
    narrowed grid (with_missed vl device missed (filled grid all (labels.Flow vl device) shades.Blank last))

-- a cell of them is filled
abbrev pub is_any : List Shade → Bool
is_any cells = list_any (λ shade. not (is_blank shade)) cells

-- they are alike
abbrev pub is_alike : List Shade → List Shade → Bool
is_alike [] [] = true
is_alike (x ∷ xs) (y ∷ ys) = is_same x y && is_alike xs ys
is_alike xs ys = false
