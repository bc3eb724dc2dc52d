-- The room that the schedule leaves its rows.
use Rattle.std.specs.Prelude.{◌*◌, ◌+◌, ◌≡◌, ◌≤◌, ◌⊎◌, ℕ}
use Rattle.{net_plan.specs.declared.network.Network.Network, schedule_tables.specs.Schedule.IsClearBefore}
use Rattle.{precision_law.specs.Sizes.Sizes, schedule_tables.specs.Entries.IsEntry, tte_units.specs.Amount.amount}
use Rattle.{precision_law.specs.Views.{IsView, View}, schedule_tables.specs.{Delays.pcf_port_time, Rules.KeepsRules}}
use Rattle.schedule_tables.specs.{Windows.{OccursIn, port_time, window_end}, declared.entry.Entry.Entry}

-- no row comes before the schedule begins
abbrev pub RowsComeInSchedule : Type 0
RowsComeInSchedule =
    (network : Network) (place : ℕ) (entry : Entry) → KeepsRules network → IsEntry network place entry
    → amount network.tt_start ≤ amount entry.row.offset

-- the value lies in the schedule of a cycle: behind the correction, the last control frame and its port time, and
-- before the cycle's end, with room for four precisions
pub record IsInSchedule (n : Sizes) (value : ℕ) : Type 0 where
  pub begins : n.correction + n.dmax + 4 * n.precision ≤ value
  pub ends : value + 4 * n.precision ≤ n.cycle

-- the row's offset lies in the schedule, and so does its window's end
pub record IsRowInTime (n : Sizes) (network : Network) (entry : Entry) : Type 0 where
  pub begins : n.correction + n.dmax + 4 * n.precision + pcf_port_time entry.link ≤ amount entry.row.offset
  pub tolerates : amount entry.row.offset + port_time entry + amount entry.link.wire + amount
      entry.link.jitter + n.precision + n.gamma ≡ window_end network entry
  pub ends : window_end network entry + 4 * n.precision ≤ n.cycle

-- each row is so in time
abbrev pub RowsAreInTime : Type 0
RowsAreInTime =
    (v : View) (place : ℕ) (entry : Entry) → IsView v → IsEntry v.scenario.network place entry
    → IsRowInTime v.sizes v.scenario.network entry

-- two rows of one link and way whose virtual links occur in one cycle stand apart, unless they are one row
abbrev pub RowsStandApart : Type 0
RowsStandApart =
    (network : Network) (place other : ℕ) (entry second : Entry) (cycle : ℕ) → KeepsRules network
    → IsEntry network place entry → IsEntry network other second
    → entry.row.link ≡ second.row.link → entry.row.way ≡ second.row.way → OccursIn entry.vl cycle
    → OccursIn second.vl cycle
    → (place ≡ other) ⊎ (IsClearBefore network entry second ⊎ IsClearBefore network second entry)

-- one row of a virtual link goes by a link
abbrev pub RowsGoOnce : Type 0
RowsGoOnce =
    (network : Network) (place other : ℕ) (entry second : Entry) → KeepsRules network
    → IsEntry network place entry → IsEntry network other second
    → entry.row.vl ≡ second.row.vl → entry.row.link ≡ second.row.link → (place ≡ other) × (entry ≡ second)
