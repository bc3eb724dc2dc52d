-- What a picture is made of, and where it stands.
use Rattle.std.specs.Prelude.{◌*◌, ◌+◌, ◌++◌, ◌-◌, ◌/◌, ◌∷◌, ◌^◌, List, Option, Some, [], fold, if◌then◌else◌}
use Rattle.std.specs.Prelude.{length, min, nat_le, ℕ}
use Rattle.lens_flows.specs.declared.judge.flow.Flow.{Flow}
use Rattle.lens_overview.specs.{Bars.{bars_of, greatest_of}, Cells.Missed, Grids.{grid_of, pen_at, right_of, width_of}}
use Rattle.lens_overview.specs.{Labels.height_of, News.last_cycle, Ranges.each_below, Rows.{Row, ToldSoFar, rows_of}}
use Rattle.lens_overview.specs.Shades.{is_blank, is_same}
use Rattle.lens_overview.specs.declared.{grid.Grid.Grid, label.Label.Label, news.News.News, pieces.Piece.Piece}
use Rattle.lens_overview.specs.declared.{pieces.BegunStroke.BegunStroke, shade.Shade.{Shade, TheVariants.Blank}}
use Rattle.net_plan.specs.declared.network.Network.{Network}
use Rattle.lens_overview.specs.declared.pieces.Piece.TheVariants as pieces
use Rattle.lens_overview.specs.declared.signs.OverviewSign.TheVariants as signs

-- how far down the first row is, but for its height
abbrev pub top : ℕ
top = 150

-- no row is further down
abbrev pub deepest : ℕ
deepest = 2 ^ 40

-- how far down the next row is
abbrev pub below : ℕ → Label → ℕ
below y label = min (y + height_of label) deepest

-- how far down the last of rows is, where those before it end here
abbrev pub bottom_of : ℕ → List Row → ℕ
bottom_of y rows = fold (λ y row. below y row.label) y rows

-- what each picture of so many records begins with, down to here
abbrev pub front : Grid → ℕ → Option ℕ → ℕ → List Piece
front grid bottom greatest records =
    pieces.Opening (width_of grid) (bottom + 30)
    ∷ pieces.Title ∷ pieces.Shared signs.Style ∷ pieces.Shared signs.Backdrop ∷ pieces.Heading
    ∷ pieces.Extent records ∷ pieces.Shared signs.FrameKey ∷ pieces.Shared signs.StateKey ∷ pieces.Caption grid
    ∷ pieces.Spread greatest ∷ []

-- every how many columns the scale has a number
abbrev pub stride_of : ℕ → ℕ
stride_of columns = if nat_le columns 20 then 1 else 10

-- the scale
abbrev pub ticks : Grid → ℕ → List Piece
ticks grid bottom =
    let stride = stride_of grid.columns in
    each_below (λ n. pieces.Tick (pen_at grid (stride * n)) (bottom + 8)) ((grid.columns - 1) / stride + 1)

-- how high a bar is, of which the highest has 36 pixels
abbrev pub bar_height : ℕ → ℕ → ℕ
bar_height spread greatest = min (spread / (greatest / 36 + 1)) 35 + 1

-- the bar of a column, if there is one
abbrev pub bar_at : Grid → Option ℕ → ℕ → Option ℕ → List Piece
bar_at grid (Some greatest) column (Some spread) =
    pieces.Bar (pen_at grid column) (grid.pitch - 1) (bar_height spread greatest) spread ∷ []
bar_at grid greatest column bar = []

-- the bars of the columns from this one on
abbrev pub bars_from : Grid → Option ℕ → ℕ → List (Option ℕ) → List Piece
bars_from grid greatest column [] = []
bars_from grid greatest column (bar ∷ bars) =
    bar_at grid greatest column bar ++ bars_from grid greatest (column + 1) bars

-- the stroke that began so and ends before the column, if there is anything to be drawn
abbrev pub stroke_to : Grid → Label → ℕ → BegunStroke → ℕ → List Piece
stroke_to grid label y begun column =
    if is_blank begun.shade then []
    else pieces.Stroke (record {
      label = label;
      y = y;
      shade = begun.shade;
      from = pen_at grid begun.column;
      to = pen_at grid column;
    }) ∷ []

-- the strokes of the cells from this column on, where one began so
abbrev pub strokes_from : Grid → Label → ℕ → BegunStroke → ℕ → List Shade → List Piece
strokes_from grid label y begun column [] = stroke_to grid label y begun grid.columns
strokes_from grid label y begun column (shade ∷ cells) =
    if is_same begun.shade shade then strokes_from grid label y begun (column + 1) cells
    else stroke_to grid label y begun column
    ++ strokes_from grid label y (record { shade = shade; column = column }) (column + 1) cells

-- before the first column
abbrev pub not_begun : BegunStroke
not_begun = record { shade = Blank; column = 0 }

-- the name of a row and its strokes
abbrev pub row_pieces : Grid → Row → ℕ → List Piece
row_pieces grid row y =
    pieces.Name row.label y (right_of grid) ∷ strokes_from grid row.label y not_begun 0 row.cells

-- rows, one below another, from below here on
abbrev pub rows_from : Grid → ℕ → List Row → List Piece
rows_from grid y [] = []
rows_from grid y (row ∷ rows) =
    row_pieces grid row (below y row.label) ++ rows_from grid (below y row.label) rows

-- the picture of these rows and bars, of so many records
abbrev pub picture_of : Grid → List Row → List (Option ℕ) → Option ℕ → ℕ → List Piece
picture_of grid rows bars greatest records =
    front grid (bottom_of top rows) greatest records
    ++ (ticks grid (bottom_of top rows)
    ++ (bars_from grid greatest 0 bars ++ (rows_from grid top rows ++ pieces.Shared signs.Close ∷ [])))

-- what the rows are made of, where the records tell this
abbrev pub told_of : List News → ToldSoFar
told_of all = record { news = all; last = last_cycle all; grid = grid_of (last_cycle all) }

-- the picture of what records tell, of which these frames are missing
abbrev pub pieces_of : Network → List News → List Missed → List Flow → List Piece
pieces_of network all missed flows =
    let grid = grid_of (last_cycle all) in
    picture_of grid (rows_of network (told_of all) missed flows) (bars_of grid all) (greatest_of all) (length all)
