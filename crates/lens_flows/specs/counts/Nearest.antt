-- How near the deliveries of a flow come to the ends of their windows.
use Rattle.std.specs.Prelude.{◌≡◌, ℕ, ◌≤◌, ℤ, pos, ◌-ℤ◌, List, Option, Some, None, min}
use Rattle.lens_flows.specs.declared.{counts.nearest.Nearest.Nearest, judge.flow.Flow.Flow}
use Rattle.net_plan.specs.declared.{ids.{DeviceId.DeviceId, LinkId.LinkId}, network.Network.Network}
use Rattle.run_law.specs.{device.{LocalClocks.local_before, Standpoints.offset_in_cycle}, records.Happenings.Happening}
use Rattle.run_law.specs.scenario.Scenarios.{Scenario}
use Rattle.schedule_tables.specs.{Entries.{IsEntry, target_of}, declared.{entry.Entry.Entry, window.Window.Window}}
use Rattle.schedule_tables.specs.Windows.{window_of}

-- the place lies so far behind the beginning of the window, and so far before its end
pub record IsInside (window : Window) (place : ℤ) (early late : ℕ) : Type 0 where
  pub behind : pos early ≡ place -ℤ window.from.0
  pub before : pos late ≡ window.to.0 -ℤ place

-- the row of the flow into its receiver on the link, and the place in its window
pub record IsInsideRow (network : Network) (flow : Flow) (link : LinkId) (place : ℤ) (row early late : ℕ) : Type 0 where
  pub entry : Entry
  pub is : IsEntry network row entry
  pub of_vl : entry.row.vl ≡ flow.vl
  pub enters : target_of entry ≡ flow.device
  pub by : entry.row.link ≡ link
  pub inside : IsInside (window_of network entry) place early late

-- the same, of some row
abbrev pub IsInsideSome : Network → Flow → LinkId → ℤ → ℕ → ℕ → Type 0
IsInsideSome network flow link place early late = (row : ℕ) × IsInsideRow network flow link place row early late

-- the place in its cycle of the device's clock, when something comes at the time
abbrev pub place_at : Scenario → List Happening → DeviceId → ℕ → ℤ
place_at s hs device t = offset_in_cycle s.network (local_before s hs device t)

-- there are such distances to the two ends, and none is less
pub record IsLeast (Are : ℕ → ℕ → Type 0) (n : Nearest) : Type 0 where
  pub early_there : (other : ℕ) × Are n.early other
  pub late_there : (other : ℕ) × Are other n.late
  pub least : (x y : ℕ) → Are x y → (n.early ≤ x) × (n.late ≤ y)

-- the least such distances, or none where there are none
abbrev pub TellsLeast : (ℕ → ℕ → Type 0) → Option Nearest → Type 0
TellsLeast Are None = (x y : ℕ) → Are x y → ⊥
TellsLeast Are (Some n) = IsLeast Are n

-- the nearer of both
abbrev pub nearer : Option Nearest → Option Nearest → Option Nearest
nearer None second = second
nearer (Some first) None = Some first
nearer (Some first) (Some second) =
    Some (record { early = min first.early second.early; late = min first.late second.late })
