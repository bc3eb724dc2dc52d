-- The rows that leave a switch, and what they have still to dispatch.
use Rattle.std.specs.{List.{All, Contains}, Option.option_map_or, Prelude.{map, slice_index_or, unwrap_or, ℕ, ℤ}}
use Rattle.std.specs.Prelude.{◌%◌, ◌&&◌, ◌*◌, ◌+◌, ◌-ℤ◌, ◌<ℤ◌, ◌<◌, ◌==◌, ◌^◌, ◌≡◌, ◌≤ℤ◌, ◌≤◌, ◌⊎◌, Bool, IfSome, List}
use Rattle.std.specs.Prelude.{None, Option, Some, if◌then◌else◌, int_lt, length, nat_le, option_map, pos, slice_get}
use Rattle.{device_rules.specs.least_key.Trees.no_key, tte_units.specs.{Amount.amount, declared.units.Units.Units}}
use Rattle.net_plan.specs.{Ranges.IsWithin, declared.{ids.{DeviceId.DeviceId, RowId.RowId}, network.Network.Network}}
use Rattle.{schedule_tables.specs.Entries.{IsEntry, source_of}, switch_ports.specs.declared.departures.TakenFrameAt.TakenFrameAt}
use Rattle.{schedule_tables.specs.declared.entry.Entry.Entry, switch_ports.specs.declared.departures.Held.Held}
use Rattle.switch_ports.specs.declared.departures.{Departure.Departure, Dispatch.Dispatch, SwitchRow.SwitchRow}

-- ---- rows

-- what is kept of the entry of a row
abbrev pub leaving_by : ℕ → Option ℕ → RowId → Entry → SwitchRow
leaving_by place before row entry = record {
  row = row;
  link = entry.row.link;
  vl = entry.row.vl;
  offset = amount entry.row.offset;
  period = entry.vl.period;
  phase = entry.vl.phase;
  place = place;
  before = before;
}

-- the row of the entry, of which no frame has been taken
abbrev pub fresh_row : ℕ → Option ℕ → RowId → Entry → Departure
fresh_row place before row entry = record { of = leaving_by place before row entry; held = None; awaited = None }

-- the row is kept as its entry says, and leaves the device
pub record IsLeaving (network : Network) (device : DeviceId) (of : SwitchRow) : Type 0 where
  pub entry : Entry
  pub is : IsEntry network of.row.0 entry
  pub leaves : source_of entry ≡ device
  pub kept : of ≡ leaving_by of.place of.before of.row entry

-- the row at the place is one of these
abbrev pub HasRow : List Departure → ℕ → Type 0
HasRow rows place = (d : Departure) × Contains rows d × (d.of.row.0 ≡ place)

-- ---- the order of rows

-- the place kept for the virtual link
abbrev pub place_in : List (Option ℕ) → ℕ → Option ℕ
place_in lasts vl = unwrap_or (slice_get lasts vl) None

-- this is the place of the last row of the virtual link before the bound, if there is one
abbrev pub IsLast : List Departure → ℕ → ℕ → Option ℕ → Type 0
IsLast rows vl bound None = (k : ℕ) (d : Departure) → k < bound → (slice_index_or rows k d).of.vl.0 ≡ vl → ⊥
IsLast rows vl bound (Some place) =
    (place < bound) × ((d : Departure) → (slice_index_or rows place d).of.vl.0 ≡ vl)
    × ((k : ℕ) (d : Departure) → place < k → k < bound → (slice_index_or rows k d).of.vl.0 ≡ vl → ⊥)

-- the rows know their places, rise, and lead to those of the same virtual link, from the last one on
pub record AreChained (rows : List Departure) (lasts : List (Option ℕ)) : Type 0 where
  pub places : (k : ℕ) (d : Departure) → k < length rows → (slice_index_or rows k d).of.place ≡ k
  pub rise : (j k : ℕ) (d : Departure) → j < k → k < length rows
      → (slice_index_or rows j d).of.row.0 < (slice_index_or rows k d).of.row.0
  pub before : (k : ℕ) (d : Departure) → k < length rows
      → IsLast rows (slice_index_or rows k d).of.vl.0 k (slice_index_or rows k d).of.before
  pub last : (vl : ℕ) → IsLast rows vl (length rows) (place_in lasts vl)

-- ---- frames

-- the local value at which the row's frame of a cycle is dispatched, in cycles of this length
abbrev pub value_in : ℕ → SwitchRow → ℕ → ℤ
value_in length of cycle = pos (cycle * length + of.offset)

-- does the row's virtual link occur in the cycle?
abbrev pub is_dispatch_in : SwitchRow → ℕ → Bool
is_dispatch_in of cycle = nat_le 1 cycle && cycle % of.period == of.phase

-- the frame of the cycle, as the row dispatches it
abbrev pub held_in : ℕ → SwitchRow → ℕ → Held
held_in length of cycle = record { cycle = cycle; value = record { 0 = value_in length of cycle } }

-- the frame taken in the cycle at the local value, if the row dispatches it behind that
abbrev pub held_by : ℕ → SwitchRow → ℕ → ℤ → Option Held
held_by length of cycle at =
    if is_dispatch_in of cycle && int_lt at (value_in length of cycle) then Some (held_in length of cycle) else None

-- the frame, if it is dispatched behind the local value
abbrev pub awaited_of : ℤ → Option Held → Option Held
awaited_of changed None = None
awaited_of changed (Some held) = if int_lt changed held.value.0 then Some held else None

-- the row with this frame, where the adjustment changed last at the local value
abbrev pub with_held : ℤ → Option Held → Departure → Departure
with_held changed held d = record d { held = held; awaited = awaited_of changed held }

-- the row when a frame is taken
abbrev pub with_taking : ℕ → ℤ → TakenFrameAt → Departure → Departure
with_taking length changed taking d =
    if d.of.vl.0 == taking.vl.0 then with_held changed (held_by length d.of taking.cycle taking.at.0) d else d

-- the row when the adjustment has changed at the local value
abbrev pub reopened : ℤ → Departure → Departure
reopened changed d = record d { awaited = awaited_of changed d.held }

-- the row when the dispatch of the one at the place has come
abbrev pub closed : ℕ → Departure → Departure
closed place d = if d.of.place == place then record d { awaited = None } else d

-- each of the new rows is what this makes of the old one
pub record AreEach (f : Departure → Departure) (old new : List Departure) : Type 0 where
  pub count : length new ≡ length old
  pub each : (k : ℕ) (d : Departure) → k < length old → slice_index_or new k d ≡ f (slice_index_or old k d)

-- the same of the first rows, and the others are as they were
pub record AreEachUpTo (f : Departure → Departure) (n : ℕ) (old new : List Departure) : Type 0 where
  pub count : length new ≡ length old
  pub done : (k : ℕ) (d : Departure) → k < n → k < length old → slice_index_or new k d ≡ f (slice_index_or old k d)
  pub rest : (k : ℕ) (d : Departure) → n ≤ k → k < length old → slice_index_or new k d ≡ slice_index_or old k d

-- ---- ranges

-- the local value of the dispatch is in the range of runs
abbrev pub IsHeldFit : Held → Type 0
IsHeldFit held = IsWithin 0 (2 ^ 62 + 2 ^ 40) held.value

-- the row's numbers are in their ranges
pub record IsFit (d : Departure) : Type 0 where
  pub offset : d.of.offset ≤ 2 ^ 40
  pub period : 1 ≤ d.of.period
  pub link : d.of.link.0 < 2 ^ 32
  pub place : d.of.place < 2 ^ 32
  pub held : IfSome d.held IsHeldFit
  pub awaited : IfSome d.awaited IsHeldFit

-- the cycle of the taking begins in the range of runs
pub record IsTakingFit (length : Units) (taking : TakenFrameAt) : Type 0 where
  pub from_zero : pos 0 ≤ℤ length.0
  pub cycle : taking.cycle * amount length ≤ 2 ^ 62

-- no frame has been taken
pub record IsFresh (network : Network) (device : DeviceId) (d : Departure) : Type 0 where
  pub of : IsLeaving network device d.of
  pub place : d.of.place ≤ d.of.row.0
  pub held : d.held ≡ None
  pub awaited : d.awaited ≡ None

-- these are all rows that leave the device and stand before the place, in their order, of which no frame has been taken
pub record AreLeaving (network : Network) (device : DeviceId) (bound : ℕ) (rows : List Departure)
    (lasts : List (Option ℕ)) : Type 0 where
  pub each : All (IsFresh network device) rows
  pub complete : (place : ℕ) (entry : Entry) → IsEntry network place entry → source_of entry ≡ device → place < bound
      → HasRow rows place
  pub chained : AreChained rows lasts
  pub below : (k : ℕ) (d : Departure) → k < length rows → (slice_index_or rows k d).of.row.0 < bound
  pub few : length rows ≤ bound
  pub vls : length lasts ≡ length network.vl

-- ---- dispatches

-- the dispatch of this frame by the row, where the local clock has this adjustment
abbrev pub dispatch_at : ℤ → SwitchRow → Held → Dispatch
dispatch_at adjustment of held = record {
  at = record { 0 = held.value.0 -ℤ adjustment };
  link = of.link;
  row = of.row;
  cycle = held.cycle;
  place = of.place;
}

-- the dispatch that the row has still to make
abbrev pub dispatch_by : ℤ → Departure → Option Dispatch
dispatch_by adjustment d = option_map (dispatch_at adjustment d.of) d.awaited

-- the one comes before the other: by their readings, then by links, then by rows
abbrev pub Precedes : Dispatch → Dispatch → Type 0
Precedes a b =
    (a.at.0 <ℤ b.at.0)
    ⊎ ((a.at.0 ≡ b.at.0) × ((a.link.0 < b.link.0) ⊎ ((a.link.0 ≡ b.link.0) × (a.row.0 < b.row.0))))

-- the row has still to make this dispatch
abbrev pub IsOf : ℤ → List Departure → Dispatch → Type 0
IsOf adjustment rows next = (d : Departure) × Contains rows d × (dispatch_by adjustment d ≡ Some next)

-- this is the first of the dispatches that the rows have still to make
abbrev pub IsFirstOf : ℤ → List Departure → Option Dispatch → Type 0
IsFirstOf adjustment rows None = All (λ d. dispatch_by adjustment d ≡ None) rows
IsFirstOf adjustment rows (Some next) =
    IsOf adjustment rows next × All (λ d. IfSome (dispatch_by adjustment d) (λ other. Precedes other next → ⊥)) rows

-- ---- keys

-- the key of the frame: by its local value, then by the row's link, then by the row's place
abbrev pub key_at : SwitchRow → Held → ℕ
key_at of held = amount held.value * 2 ^ 64 + (of.link.0 * 2 ^ 32 + of.place)

-- the key of what the row has still to dispatch
abbrev pub key_by : Departure → ℕ
key_by d = option_map_or (key_at d.of) d.awaited no_key

-- these are the keys of the rows
abbrev pub AreKeys : List Departure → List ℕ → Type 0
AreKeys rows keys = keys ≡ map key_by rows
