-- What the lines of a picture show of devices and ways, and what the records tell of them.
use Rattle.std.specs.Prelude.{◌<◌, ◌==◌, ◌≡◌, ◌≤◌, ◌⊎◌, List, false, fold, if◌then◌else◌, nat_le, nat_lt, ℕ}
use Rattle.lens_overview.specs.{Cells.is_same_way, Grids.{column_of, pen_at, right_of}, LawParts.HasStroke}
use Rattle.lens_overview.specs.{Lines.{name_line, ribbon_line}, News.cycle_of}
use Rattle.lens_overview.specs.{Shades.{is_blank, shade_of}, declared.{grid.Grid.Grid, label.Label.Label, shade.Shade.Shade}}
use Rattle.net_plan.specs.declared.{ids.{DeviceId.DeviceId, LinkId.LinkId}, network.Network.Network, tables.Way.Way}
use Rattle.run_law.specs.{declared.{judgement.Why.Why, note.{Note.Note, NoteBody.NoteBody}}, records.Order.IsIn}
use Rattle.sync_state.specs.declared.state.State.{State}
use Rattle.lens_overview.specs.declared.shade.Shade.TheVariants as shades
use Rattle.net_plan.specs.declared.event.What.TheVariants as events
use Rattle.run_law.specs.declared.note.NoteBody.TheVariants as notes

-- one of these lines is the name of the row, and along the row a stroke of its shade goes over each cell that is not blank
pub record HasCells (network : Network) (grid : Grid) (lines : List (List ℕ)) (label : Label) (cell : ℕ → Shade)
    : Type 0 where
  pub y : ℕ
  pub name : IsIn (name_line network label y (right_of grid)) lines
  pub each : (column : ℕ) → column < grid.columns → is_blank (cell column) ≡ false
      → HasStroke network grid lines label y column (cell column)

-- the line is that of a stroke along the row, whose name is one of these lines; each of the cells that it goes over has
-- its shade, which is not blank, and it goes over some
pub record IsStrokeAlong (network : Network) (grid : Grid) (lines : List (List ℕ)) (label : Label) (cell : ℕ → Shade)
    (line : List ℕ) : Type 0 where
  pub y : ℕ
  pub name : IsIn (name_line network label y (right_of grid)) lines
  pub first : ℕ
  pub last : ℕ
  pub shade : Shade
  pub is : line ≡ ribbon_line network (record {
    label = label;
    y = y;
    shade = shade;
    from = pen_at grid first;
    to = pen_at grid last;
  })
  pub some : first < last
  pub seen : is_blank shade ≡ false
  pub each : (column : ℕ) → first ≤ column → column < last → cell column ≡ shade

-- the shade of a device behind a record, which says that it breaks, or in which state it is from now on
abbrev pub device_after : DeviceId → NoteBody → Shade → Shade
device_after device (notes.Event line (events.Break other)) shade =
    if other.0 == device.0 then shades.Broken else shade
device_after device (notes.State other state cause why) shade =
    if other.0 == device.0 then shade_of state else shade
device_after device body shade = shade

-- behind the records up to the end of a column
abbrev pub device_cell : Network → Grid → List Note → DeviceId → Shade → ℕ → Shade
device_cell network grid ns device start column =
    fold (λ shade note. if nat_le (column_of grid (cycle_of network note)) column
    then device_after device note.body shade else shade) start ns

-- the record says so of the device
pub record IsTurn (device : DeviceId) (body : NoteBody) : Type 0 where
  pub is : ((line : ℕ) × (body ≡ notes.Event line (events.Break device)))
      ⊎ ((state : State) × (cause : ℕ) × (why : Why) × (body ≡ notes.State device state cause why))

-- the shade of a way in a column behind a record: it is cut from the column of its cut on, and healed behind the column
-- in which it heals
abbrev pub way_after : LinkId → Way → ℕ → ℕ → NoteBody → Shade → Shade
way_after link way at column (notes.Event line (events.Cut other of)) shade =
    if nat_le at column then if is_same_way link way other of then shades.Cut else shade else shade
way_after link way at column (notes.Event line (events.Heal other of)) shade =
    if nat_lt at column then if is_same_way link way other of then shades.Blank else shade else shade
way_after link way at column body shade = shade

-- behind all records
abbrev pub way_cell : Network → Grid → List Note → LinkId → Way → ℕ → Shade
way_cell network grid ns link way column =
    fold (λ shade note. way_after link way (column_of grid (cycle_of network note)) column note.body shade)
    shades.Blank ns
