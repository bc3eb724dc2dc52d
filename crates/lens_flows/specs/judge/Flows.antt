-- The flows of a network: each virtual link with each of its receivers.
use Rattle.std.specs.Prelude.{◌+◌, ◌<◌, ◌≡◌, ◌≤◌, MatchOption, Option, Some, slice_get, ℕ}
use Rattle.lens_flows.specs.declared.judge.flow.{Flow.Flow, RowSpan.RowSpan}
use Rattle.net_plan.specs.declared.{ids.VlId.VlId, tables.Row.Row}
use Rattle.run_law.specs.law.Safety.{IsRowInto, IsWindowEnd}
use Rattle.net_plan.specs.{Bounds.IsGreatest, Places.IsEndSystem}
use Rattle.{net_plan.specs.declared.network.Network.Network, schedule_tables.specs.declared.entry.Entry.Entry}

-- the row at the place is one of the virtual link
pub record IsRowOf (network : Network) (vl : VlId) (place : ℕ) : Type 0 where
  pub row : Row
  pub is : slice_get network.row place ≡ Some row
  pub of_vl : row.vl ≡ vl

-- all rows of the virtual link stand there, one at the first place and one at the last
pub record AreWithin (network : Network) (vl : VlId) (span : RowSpan) : Type 0 where
  pub all : (place : ℕ) → IsRowOf network vl place → (span.from ≤ place) × (place < span.to)
  pub first : IsRowOf network vl span.from
  pub last : (place : ℕ) × (span.to ≡ place + 1) × IsRowOf network vl place

-- the same of the rows before a place
pub record AreWithinBefore (network : Network) (vl : VlId) (n : ℕ) (span : RowSpan) : Type 0 where
  pub all : (place : ℕ) → place < n → IsRowOf network vl place → (span.from ≤ place) × (place < span.to)
  pub first : IsRowOf network vl span.from
  pub last : (place : ℕ) × (span.to ≡ place + 1) × IsRowOf network vl place
  pub most : span.to ≤ n

-- so they stand, or there are none
abbrev pub TellsSpan : Network → VlId → ℕ → Option RowSpan → Type 0
TellsSpan network vl n r =
    MatchOption r ((place : ℕ) → place < n → IsRowOf network vl place → ⊥) (AreWithinBefore network vl n)

-- the virtual link of the flow stands at its place; a row of it leads into the device, which is an end system; and so
-- far into the cycle the last of its windows there ends
pub record IsFlow (network : Network) (flow : Flow) : Type 0 where
  pub there : slice_get network.vl flow.vl.0 ≡ Some flow.of_vl
  pub end_system : IsEndSystem network flow.device
  pub into : Entry
  pub enters : IsRowInto network flow.vl flow.device into
  pub greatest : IsGreatest (IsWindowEnd network flow.vl flow.device) flow.last
  pub rows : AreWithin network flow.vl flow.rows
