-- The slots of the rows that a device dispatches.
use Rattle.std.specs.List.{Contains}
use Rattle.std.specs.Prelude.{◌%◌, ◌*◌, ◌+◌, ◌-ℤ◌, ◌<◌, ◌∷◌, ◌≡◌, ◌≤◌, List, None, Option, Some, [], pos, ℕ, ℤ}
use Rattle.{end_system.specs.declared.{own.Own.Own, rows.OwnRows.OwnRows}, net_plan.specs.declared.ids.DeviceId.DeviceId}
use Rattle.{end_system.specs.declared.rows.Dispatch.Dispatch, net_plan.specs.declared.network.Network.Network}
use Rattle.{net_plan.specs.Ranges.IsInRange, schedule_tables.specs.Dispatches.IsBelow, tte_units.specs.Amount.amount}
use Rattle.schedule_tables.specs.{Slots.{AreSlots, numbers_of}, declared.slot.{Slot.Slot, Whose.TheVariants.SentBy}}

-- the numbers of a slot's turn among its device's, which are compared from the left
abbrev pub turn_of : Slot → List ℕ
turn_of slot = slot.residue ∷ numbers_of slot.place

-- these are the slots of the rows whose frames the device sends first
pub record AreRowsOf (network : Network) (device : DeviceId) (rows : OwnRows) : Type 0 where
  pub owner : rows.device ≡ device
  pub slots : AreSlots network (SentBy device) rows.slots.items

-- these are the rows of some device
abbrev pub AreSomeRows : OwnRows → Type 0
AreSomeRows rows = (network : Network) × (device : DeviceId) × IsInRange network × AreRowsOf network device rows

-- the slot is one of the device's that occurs in the cycle
pub record IsSlotIn (rows : OwnRows) (slot : Slot) (cycle : ℕ) : Type 0 where
  pub there : Contains rows.slots.items slot
  pub residue : slot.residue ≡ cycle % 64

-- the dispatch is that of a slot of the device
abbrev pub IsAtSlot : OwnRows → Dispatch → Type 0
IsAtSlot rows next = IsSlotIn rows next.slot next.cycle

-- the slot in this cycle comes no earlier than the bound in the 64 cycles from the first on
pub record IsFrom (first : ℕ) (bound slot : Slot) (cycle : ℕ) : Type 0 where
  pub reached : first ≤ cycle
  pub behind : cycle < first + 64 → IsBelow (turn_of slot) (turn_of bound) → ⊥

-- the dispatch is the first of those that come no earlier than the bound
pub record IsNextFrom (own : Own) (rows : OwnRows) (adjustment : ℤ) (first : ℕ) (bound : Slot)
    (next : Dispatch) : Type 0 where
  pub slot : IsAtSlot rows next
  pub from : IsFrom first bound next.slot next.cycle
  pub least : (slot : Slot) (cycle : ℕ) → IsSlotIn rows slot cycle → IsFrom first bound slot cycle
      → IsBelow (cycle ∷ numbers_of slot.place) (next.cycle ∷ numbers_of next.slot.place) → ⊥
  pub at : next.at.0 ≡ (pos (next.cycle * amount own.plan.cycle_length + next.slot.place.offset) -ℤ adjustment)

-- it is that dispatch, or there are no rows
abbrev pub IsFirstFrom : Own → OwnRows → ℤ → ℕ → Slot → Option Dispatch → Type 0
IsFirstFrom own rows adjustment first bound None = rows.slots.items ≡ []
IsFirstFrom own rows adjustment first bound (Some next) = IsNextFrom own rows adjustment first bound next
