-- The order of places.
use Rattle.std.specs.Prelude.{◌∷◌, ◌≡◌, List, None, Option, Some, [], ℕ}
use Rattle.{run_law.specs.records.Order.{IsBefore, IsIn}, world_state.specs.declared.queue.{DueAt.DueAt, Entry.Entry}}

-- the place as a list of numbers
abbrev pub numbers_of : DueAt → List ℕ
numbers_of p = p.at ∷ p.rank ∷ p.device ∷ p.link ∷ p.cause ∷ []

-- one of them is at this place, and none before
pub record IsFirst {T : Type 0} (entries : List (Entry T)) (place : DueAt) : Type 0 where
  pub entry : Entry T
  pub there : IsIn entry entries
  pub at : entry.place ≡ place
  pub none : (other : Entry T) → IsIn other entries → IsBefore (numbers_of other.place) (numbers_of place) → ⊥

-- what stands before the others, where there is something
abbrev pub first_entry : {T : Type 0} → List (Entry T) → Option (Entry T)
first_entry [] = None
first_entry (e ∷ es) = Some e
