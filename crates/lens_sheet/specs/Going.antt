-- How the rows of a way are followed back to the sender.
use Rattle.std.specs.Prelude.{◌+◌, ◌<◌, ◌≡◌, List, length, ℕ}
use Rattle.lens_sheet.specs.Ways.{ComesBy, IsWay}
use Rattle.net_plan.specs.declared.{ids.{DeviceId.DeviceId, VlId.VlId}, network.Network.Network}
use Rattle.schedule_tables.specs.{Entries.{IsEntry, source_of, target_of}, declared.entry.Entry.Entry}
use Rattle.tte_units.specs.Amount.{amount}

-- the entry is of a row of the network
abbrev pub IsSomeEntry : Network → Entry → Type 0
IsSomeEntry network entry = (place : ℕ) × IsEntry network place entry

-- the row is the virtual link's and enters the device
pub record Enters (vl : VlId) (device : DeviceId) (entry : Entry) : Type 0 where
  pub own : entry.row.vl ≡ vl
  pub target : target_of entry ≡ device

-- the one row, of the same virtual link, enters the device that the other leaves, and goes earlier
pub record IsRowBefore (network : Network) (entry before : Entry) : Type 0 where
  pub row : IsSomeEntry network before
  pub enters : Enters entry.row.vl (source_of entry) before
  pub earlier : amount before.row.offset < amount entry.row.offset

-- so many rows lead to the end of the entry's row
abbrev pub LeadTo : Network → Entry → ℕ → Type 0
LeadTo network entry n =
    (before : List Entry) × IsWay network entry.row.vl (source_of entry) before × (n ≡ length before + 1)

-- the frames of the virtual link come to an end system over so many rows, of which that at this place is the last
abbrev pub ComesByRow : Network → VlId → ℕ → ℕ → Type 0
ComesByRow network vl place n = (last : Entry) × IsEntry network place last × ComesBy network vl last n
