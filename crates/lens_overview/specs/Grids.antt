-- The columns of a picture.
use Rattle.std.specs.Prelude.{◌*◌, ◌+◌, ◌/◌, ◌^◌, ◌≤◌, if◌then◌else◌, max, min, nat_lt, ℕ}
use Rattle.lens_overview.specs.declared.grid.{Grid.Grid, GridPen.GridPen}

-- how many columns a picture has at most
abbrev pub most_columns : ℕ
most_columns = 10000

-- how many pixels wide a column is: few columns are wide
abbrev pub pitch_of : ℕ → ℕ
pitch_of columns = let pixels = 860 / columns in if nat_lt pixels 6 then 6 else if nat_lt 60 pixels then 60 else pixels

-- the columns of a run whose last cycle is this: of one cycle each, where a picture has room for so many, and else of as
-- many as must be
abbrev pub grid_of : ℕ → Grid
grid_of last =
    let cycles = last / most_columns + 1 in
    let columns = last / cycles + 1 in
    record { cycles = cycles; columns = columns; pitch = pitch_of columns }

-- its numbers are small
pub record IsNarrow (grid : Grid) : Type 0 where
  pub each : 1 ≤ grid.cycles
  pub cycles : grid.cycles ≤ 2 ^ 32
  pub some : 1 ≤ grid.columns
  pub columns : grid.columns ≤ most_columns
  pub wide : 6 ≤ grid.pitch
  pub pitch : grid.pitch ≤ 60

-- the column of a cycle
abbrev pub column_of : Grid → ℕ → ℕ
column_of grid cycle = cycle / grid.cycles

-- where a column begins: how far to the right, and its first cycle; one that no picture has begins where the last of the
-- widest ends
abbrev pub pen_at : Grid → ℕ → GridPen
pen_at grid column =
    let place = min column most_columns in
    record { x = 200 + grid.pitch * place; cycle = grid.cycles * place }

-- the right end of all columns
abbrev pub right_of : Grid → ℕ
right_of grid = (pen_at grid grid.columns).x

-- how wide the picture is
abbrev pub width_of : Grid → ℕ
width_of grid = max (right_of grid + 20) 960
