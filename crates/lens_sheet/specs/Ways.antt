-- Over how many rows the frames of a virtual link come to its receivers.
use Rattle.std.specs.Prelude.{◌+◌, ◌∷◌, ◌≡◌, List, Some, [], length, slice_get, ℕ}
use Rattle.net_plan.specs.{Bounds.IsGreatest, Places.IsEndSystem, declared.tables.VirtualLink.VirtualLink}
use Rattle.net_plan.specs.declared.{ids.{DeviceId.DeviceId, VlId.VlId}, network.Network.Network}
use Rattle.schedule_tables.specs.{Entries.{IsEntry, source_of, target_of}, declared.entry.Entry.Entry}

-- the rows lead to the device, the last one first: the one enters it, and the next one the device that this one leaves,
-- up to the virtual link's sender
abbrev pub IsWay : Network → VlId → DeviceId → List Entry → Type 0
IsWay network vl device [] = (of : VirtualLink) × (slice_get network.vl vl.0 ≡ Some of) × (of.sender ≡ device)
IsWay network vl device (entry ∷ before) =
    (place : ℕ) × IsEntry network place entry × (entry.row.vl ≡ vl) × (target_of entry ≡ device)
    × IsWay network vl (source_of entry) before

-- the frames of the virtual link come to an end system over so many rows, of which this is the last
pub record ComesBy (network : Network) (vl : VlId) (last : Entry) (n : ℕ) : Type 0 where
  pub before : List Entry
  pub end : IsEndSystem network (target_of last)
  pub way : IsWay network vl (target_of last) (last ∷ before)
  pub count : n ≡ length before + 1

-- they come to some receiver over so many rows
abbrev pub ComesOver : Network → VlId → ℕ → Type 0
ComesOver network vl n = (last : Entry) × ComesBy network vl last n

-- the greatest count of rows on a way to a receiver
abbrev pub AreHops : Network → VlId → ℕ → Type 0
AreHops network vl hops = IsGreatest (ComesOver network vl) hops
