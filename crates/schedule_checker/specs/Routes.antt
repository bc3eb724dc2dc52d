-- How the rows of a virtual link enter devices.
use Rattle.std.specs.Prelude.{◌≡◌, ◌≢◌, ◌⊎◌, List, Some, slice_get, ℕ}
use Rattle.net_plan.specs.{Places.IsEndSystem, declared.{ids.{DeviceId.DeviceId, VlId.VlId}, network.Network.Network}}
use Rattle.tte_units.specs.declared.frames.channel.Channel.{Channel, TheVariants.{A, B}}
use Rattle.schedule_tables.specs.{Entries.{IsOnChannel, source_of, target_of}, Schedule.{EntersOn, IsSwitch, LeavesOn}}
use Rattle.schedule_tables.specs.declared.entry.Entry.{Entry}

-- one of the entries, at another place than this and of the same virtual link, enters the entry's source
pub record IsEnteredElsewhere (entries : List Entry) (place : ℕ) (entry : Entry) : Type 0 where
  pub at : ℕ
  pub other : Entry
  pub there : slice_get entries at ≡ Some other
  pub elsewhere : at ≢ place
  pub same_vl : other.row.vl ≡ entry.row.vl
  pub target : target_of other ≡ source_of entry

-- the other is of the entry's virtual link, and enters its source
abbrev pub EntersSource : Entry → Entry → Type 0
EntersSource entry other = (other.row.vl ≡ entry.row.vl) × (target_of other ≡ source_of entry)

-- if the entry is of the other's virtual link, it goes by another link
abbrev pub GoesElsewhere : Entry → Entry → Type 0
GoesElsewhere entry other = entry.row.vl ≡ other.row.vl → entry.row.link ≢ other.row.link

-- the links of both entries are of one channel
abbrev pub ShareChannel : Network → Entry → Entry → Type 0
ShareChannel network earlier entry =
    (channel : Channel) × IsOnChannel network channel earlier × IsOnChannel network channel entry

-- the entry enters a switch again that the earlier one of its virtual link enters, or an end system on
-- the same channel
pub record EntersAgain (network : Network) (earlier entry : Entry) : Type 0 where
  pub same_vl : entry.row.vl ≡ earlier.row.vl
  pub same_target : target_of entry ≡ target_of earlier
  pub once : IsSwitch network (target_of entry)
      ⊎ (IsEndSystem network (target_of entry) × ShareChannel network earlier entry)

-- the entry is of the virtual link, leaves the device, and is on the channel
abbrev pub IsLeaving : Network → VlId → Channel → DeviceId → Entry → Type 0
IsLeaving network vl channel device entry =
    (entry.row.vl ≡ vl) × (source_of entry ≡ device) × IsOnChannel network channel entry

-- the entry is of the virtual link, enters the device, and is on the channel
abbrev pub IsEntering : Network → VlId → Channel → DeviceId → Entry → Type 0
IsEntering network vl channel device entry =
    (entry.row.vl ≡ vl) × (target_of entry ≡ device) × IsOnChannel network channel entry

-- the entry is of the virtual link, enters an end system, and is on a channel
abbrev pub IsEnteringEnd : Network → VlId → Entry → Type 0
IsEnteringEnd network vl entry =
    (entry.row.vl ≡ vl) × IsEndSystem network (target_of entry)
    × (IsOnChannel network A entry ⊎ IsOnChannel network B entry)

-- the virtual link leaves the device on each channel
abbrev pub LeavesOnBoth : Network → VlId → DeviceId → Type 0
LeavesOnBoth network vl device = (channel : Channel) → LeavesOn network vl channel device

-- the virtual link enters an end system on a channel
abbrev pub EntersEndSystem : Network → VlId → Type 0
EntersEndSystem network vl =
    (channel : Channel) × (device : DeviceId) × IsEndSystem network device × EntersOn network vl channel device

-- the virtual link enters the device, if it is an end system, on both channels or on neither
pub record EntersAlike (network : Network) (vl : VlId) (device : DeviceId) : Type 0 where
  pub alike : (channel other : Channel) → IsEndSystem network device → EntersOn network vl channel device
      → EntersOn network vl other device

-- if the entry is of the virtual link, what it enters is entered alike
abbrev pub TargetIsAlike : Network → VlId → Entry → Type 0
TargetIsAlike network vl entry = entry.row.vl ≡ vl → EntersAlike network vl (target_of entry)

-- the virtual link enters the same end systems on both channels
abbrev pub EntersAllAlike : Network → VlId → Type 0
EntersAllAlike network vl = (device : DeviceId) → EntersAlike network vl device
