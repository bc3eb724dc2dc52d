-- Rows of the schedule, with the virtual link and the link that they name.
use Rattle.std.specs.Prelude.{◌≡◌, List, Some, length, slice_get, ℕ}
use Rattle.net_plan.specs.{Places.IsSwitchOf, declared.tables.Way.Way}
use Rattle.net_plan.specs.{Ranges.{IsInRange, IsLinkInRange, IsRowInRange, IsVlInRange}, declared.tables.Link.Link}
use Rattle.net_plan.specs.declared.{ids.DeviceId.DeviceId, network.Network.Network, tables.Way.TheVariants.{Down, Up}}
use Rattle.{schedule_tables.specs.declared.entry.Entry.Entry, tte_units.specs.declared.frames.channel.Channel.Channel}

-- the entry is the row at the place, with its virtual link and its link
pub record IsEntry (network : Network) (place : ℕ) (entry : Entry) : Type 0 where
  pub row : slice_get network.row place ≡ Some entry.row
  pub vl : slice_get network.vl entry.row.vl.0 ≡ Some entry.vl
  pub link : slice_get network.link entry.row.link.0 ≡ Some entry.link

-- these are the entries of all rows, in their order
pub record AreEntries (network : Network) (entries : List Entry) : Type 0 where
  pub count : length entries ≡ length network.row
  pub each : (place : ℕ) (entry : Entry) → slice_get entries place ≡ Some entry → IsEntry network place entry

-- the numbers of the entry lie in their ranges
pub record IsEntryInRange (network : Network) (entry : Entry) : Type 0 where
  pub row : IsRowInRange network entry.row
  pub vl : IsVlInRange network entry.vl
  pub link : IsLinkInRange network entry.link

-- the device that a frame on this way of the link leaves
abbrev pub source_by : Way → Link → DeviceId
source_by Up link = link.child
source_by Down link = link.parent

-- the device that it enters
abbrev pub target_by : Way → Link → DeviceId
target_by Up link = link.parent
target_by Down link = link.child

-- the device that the entry's frame leaves
abbrev pub source_of : Entry → DeviceId
source_of entry = source_by entry.row.way entry.link

-- the device that the entry's frame enters
abbrev pub target_of : Entry → DeviceId
target_of entry = target_by entry.row.way entry.link

-- the entry's link is one of the channel, which is that of its parent
abbrev pub IsOnChannel : Network → Channel → Entry → Type 0
IsOnChannel network channel entry = IsSwitchOf network channel entry.link.parent

-- the entry of a row is in range, in a network that is
abbrev pub EntriesAreInRange : Type 0
EntriesAreInRange =
    (network : Network) (place : ℕ) (entry : Entry) → IsInRange network → IsEntry network place entry
    → IsEntryInRange network entry

-- a row has one entry
abbrev pub EntryIsOne : Type 0
EntryIsOne =
    (network : Network) (place : ℕ) (entry other : Entry) → IsEntry network place entry → IsEntry network place other
    → entry ≡ other
