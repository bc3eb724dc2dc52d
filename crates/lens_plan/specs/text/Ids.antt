-- The ids of messages.
use Rattle.std.specs.{List.{Contains, filter_map}, Prelude.{◌++◌, ◌∷◌, ◌≡◌, ◌≤◌, List, None, Option, Some, [], map, ℕ}}
use Rattle.{lens_plan.specs.messages.Message.Message, net_plan.specs.declared.network.Network.Network}

-- the ids that the network's virtual links have, and those that messages give
abbrev pub taken_ids : Network → List Message → List ℕ
taken_ids network ms = map (λ vl. vl.id) network.vl ++ filter_map (λ m. m.id) ms

-- the least number from 1 that is none of these
pub record IsLeastNew (taken : List ℕ) (id : ℕ) : Type 0 where
  pub some : 1 ≤ id
  pub new : ¬ Contains taken id
  pub least : (other : ℕ) → 1 ≤ other → ¬ Contains taken other → id ≤ other

-- the id that is given, or the least new one
abbrev pub IsIdBy : List ℕ → Option ℕ → ℕ → Type 0
IsIdBy taken (Some given) id = id ≡ given
IsIdBy taken None id = IsLeastNew taken id

-- the ids of the messages, in their order, where these are taken; each one is taken for those behind it
abbrev pub AreIds : List ℕ → List Message → List ℕ → Type 0
AreIds taken [] ids = ids ≡ []
AreIds taken (m ∷ ms) ids =
    (id : ℕ) × (others : List ℕ) × IsIdBy taken m.id id × AreIds (taken ++ id ∷ []) ms others × (ids ≡ id ∷ others)
