-- The dispatches of a device in a cycle, in their order.
use Rattle.std.specs.{Option.option_map_or, Prelude.{◌<◌, ◌∷◌, ◌≡◌, ◌⊎◌, List, None, Option, Some, [], slice_get, ℕ}}
use Rattle.net_plan.specs.declared.{ids.{DeviceId.DeviceId, RowId.RowId}, network.Network.Network}
use Rattle.tte_units.specs.Amount.{amount}
use Rattle.schedule_tables.specs.{Entries.{IsEntry, source_of}, Windows.OccursIn, declared.entry.Entry.Entry}

-- the first list is the lesser one, its numbers compared from the left
abbrev pub IsBelow : List ℕ → List ℕ → Type 0
IsBelow [] ys = ⊥
IsBelow (x ∷ xs) [] = ⊥
IsBelow (x ∷ xs) (y ∷ ys) = (x < y) ⊎ ((x ≡ y) × IsBelow xs ys)

-- a row's place in the order of dispatch: by its offset, then by its link, then by the row
abbrev pub dispatch_order : Network → RowId → List ℕ
dispatch_order network row =
    option_map_or (λ r. amount r.offset ∷ r.link.0 ∷ row.0 ∷ []) (slice_get network.row row.0) []

-- the row comes behind the other in the order of dispatch, if there is another
abbrev pub ComesBehind : Network → Option RowId → RowId → Type 0
ComesBehind network None row = Unit {0}
ComesBehind network (Some other) row = IsBelow (dispatch_order network other) (dispatch_order network row)

-- the row leaves the device, and its virtual link occurs in the cycle
pub record IsDispatched (network : Network) (device : DeviceId) (cycle : ℕ) (row : RowId) : Type 0 where
  pub entry : Entry
  pub is : IsEntry network row.0 entry
  pub source : source_of entry ≡ device
  pub occurs : OccursIn entry.vl cycle

-- the row is the device's first in the cycle behind the other
pub record IsNextRow (network : Network) (device : DeviceId) (cycle : ℕ) (other : Option RowId)
    (row : RowId) : Type 0 where
  pub dispatched : IsDispatched network device cycle row
  pub behind : ComesBehind network other row
  pub first : (later : RowId) → IsDispatched network device cycle later → ComesBehind network other later
      → (later ≡ row) ⊎ IsBelow (dispatch_order network row) (dispatch_order network later)

-- the device has no row in the cycle behind the other
abbrev pub HasNoNextRow : Network → DeviceId → ℕ → Option RowId → Type 0
HasNoNextRow network device cycle other =
    (row : RowId) → IsDispatched network device cycle row → ComesBehind network other row → ⊥
