-- Trees of which each node has the lesser of two, in a list: the node i stands above 2i and 2i + 1.
use Rattle.std.specs.Prelude.{◌*◌, ◌+◌, ◌-◌, ◌<◌, ◌^◌, ◌≡◌, ◌≤◌, ◌⊎◌, List, length, slice_index_or, ℕ}

-- the key of a place that has none
abbrev pub no_key : ℕ
no_key = 2 ^ 128 - 1

-- this is the lesser of two
abbrev pub IsLesser : ℕ → ℕ → ℕ → Type 0
IsLesser left right key = (key ≤ left) × (key ≤ right) × ((key ≡ left) ⊎ (key ≡ right))

abbrev pub node_at : List ℕ → ℕ → ℕ
node_at nodes i = slice_index_or nodes i 0

-- the node has the lesser of those below it
abbrev pub HasLesser : List ℕ → ℕ → Type 0
HasLesser nodes i = IsLesser (node_at nodes (2 * i)) (node_at nodes (2 * i + 1)) (node_at nodes i)

-- a tree over so many places
pub record IsTree (nodes : List ℕ) (places : ℕ) : Type 0 where
  pub whole : length nodes ≡ 2 * places
  pub lesser : (i : ℕ) → 1 ≤ i → i < places → HasLesser nodes i
