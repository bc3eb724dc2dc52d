-- What is under way, and how short ways are.
use Rattle.std.specs.{List.IsDistinct, Prelude.{◌<◌, ◌^◌, ◌≡◌, List, length, map, ℕ}, Str.bytes_eq}
use Rattle.{net_plan.specs.declared.network.Network.Network, world_state.specs.declared.queue.Entry.Entry}
use Rattle.{run_law.specs.records.Order.IsIn, world_state.specs.queue.Places.numbers_of}
use Rattle.world_state.specs.declared.contents.{Content.{Content, TheVariants.{Port, Wire}}, WayState.WayState}

-- the rank of what is under way
abbrev pub rank_of : Content → ℕ
rank_of (Wire signal) = 2
rank_of (Port frame reading) = 8

-- what is under way is at places of its kind, each of its own, of the network's devices and links
pub record AreUnderWay (network : Network) (entries : List (Entry Content)) : Type 0 where
  pub kinds : (e : Entry Content) → IsIn e entries → e.place.rank ≡ rank_of e.content
  pub placed : (e : Entry Content) → IsIn e entries
      → (e.place.device < length network.device) × (e.place.link < length network.link)
  pub apart : IsDistinct bytes_eq (map (λ (e : Entry Content). numbers_of e.place) entries)

-- each has been put there by a record of a number less than this
abbrev pub AreBelow : ℕ → List (Entry Content) → Type 0
AreBelow number entries = (e : Entry Content) → IsIn e entries → e.place.cause < number

-- a way takes so little time that the sums of times fit their type
abbrev pub IsShort : WayState → Type 0
IsShort way = (way.delay < 2 ^ 62) × (way.hold < 2 ^ 62)
