-- What is under way: the places in a heap, and what is due there in a slab.
use Rattle.std.specs.{BinaryHeap.IsHeap, Prelude.{◌-◌, ◌≡◌, List, Option, is_some, map, min, nat_eq, true, ℕ}}
use Rattle.std.specs.{List.{IsDistinct, filter_map}, Option.option_map}
use Rattle.std.specs.{Ordering.{nat_cmp, ordering_then}, declared.cmp.{Ordering.Ordering, Reverse.Reverse}}
use Rattle.{run_law.specs.records.Order.IsIn, slab.specs.Slab.{Slab, get, slab_len}}
use Rattle.world_state.specs.declared.queue.{DueAt.DueAt, Entry.Entry, Slotted.Slotted}

-- what is under way, and for how many more there is room
pub record Queue (T : Type 0) : Type 0 where
  pub entries : List (Entry T)
  pub room : ℕ

-- places as they are compared
abbrev pub compared : DueAt → DueAt → Ordering
compared p q =
    ordering_then (nat_cmp p.at q.at)
    (ordering_then (nat_cmp p.rank q.rank)
    (ordering_then (nat_cmp p.device q.device)
    (ordering_then (nat_cmp p.link q.link) (nat_cmp p.cause q.cause))))

-- and with their slots, the least as the greatest
abbrev pub reversed : Reverse Slotted → Reverse Slotted → Ordering
reversed x y = ordering_then (compared y.0.place x.0.place) (nat_cmp y.0.slot x.0.slot)

module _ {T : Type 0} where
  abbrev pub entry_at : DueAt → T → Entry T
  entry_at place content = record { place = place; content = content }

  -- what is due at the place, from its slot
  abbrev pub entry_of : Slab T → Reverse Slotted → Option (Entry T)
  entry_of s r = option_map (entry_at r.0.place) (get s r.0.slot)

  -- what is due at each place
  abbrev pub entries_in : Slab T → List (Reverse Slotted) → List (Entry T)
  entries_in s items = filter_map (entry_of s) items

  -- for how many more there is room, where so many places are in a heap with this capacity
  abbrev pub room_of : Slab T → ℕ → ℕ → ℕ
  room_of s len capacity = min (capacity - len) (s.capacity - slab_len s)

  -- the first is on top, each has something in its slot, and no two have one slot
  pub record IsSound (s : Slab T) (items : List (Reverse Slotted)) : Type 0 where
    pub heap : IsHeap reversed items
    pub filled : (r : Reverse Slotted) → IsIn r items → is_some (get s r.0.slot) ≡ true
    pub apart : IsDistinct nat_eq (map (λ (r : Reverse Slotted). r.0.slot) items)
