-- What is found by its rank and its cause.
use Rattle.std.specs.{Prelude.{◌≡◌, List, ℕ}, declared.cmp.Reverse.Reverse}
use Rattle.run_law.specs.records.Order.{IsIn}
use Rattle.world_state.specs.declared.queue.{Entry.Entry, DueAt.DueAt, Slotted.Slotted}

-- the place has this rank and this cause
abbrev pub IsPlaceFor : ℕ → ℕ → DueAt → Type 0
IsPlaceFor rank cause place = (place.rank ≡ rank) × (place.cause ≡ cause)

-- one of the places has this rank and this cause, and this slot
pub record IsSlotFor (places : List (Reverse Slotted)) (rank cause slot : ℕ) : Type 0 where
  pub slotted : Reverse Slotted
  pub there : IsIn slotted places
  pub fits : IsPlaceFor rank cause slotted.0.place
  pub at : slotted.0.slot ≡ slot

-- none of them has the rank and the cause
abbrev pub NoSlotFor : List (Reverse Slotted) → ℕ → ℕ → Type 0
NoSlotFor places rank cause = (r : Reverse Slotted) → IsIn r places → IsPlaceFor rank cause r.0.place → ⊥

-- this is due at a place of this rank and this cause
pub record HoldsAt {T : Type 0} (entries : List (Entry T)) (rank cause : ℕ) (content : T) : Type 0 where
  pub entry : Entry T
  pub there : IsIn entry entries
  pub fits : IsPlaceFor rank cause entry.place
  pub is : entry.content ≡ content

-- nothing is
abbrev pub HoldsNoneAt : {T : Type 0} → List (Entry T) → ℕ → ℕ → Type 0
HoldsNoneAt {T} entries rank cause = (e : Entry T) → IsIn e entries → IsPlaceFor rank cause e.place → ⊥
