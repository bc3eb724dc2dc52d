-- The rules of a network's schedule. Each says that it is kept at a place: that of a virtual link, of
-- a row or of a device.
use Rattle.std.specs.{List.{Contains, count_by}, Option.option_map_or, Prelude.{slice_get, ℕ}}
use Rattle.std.specs.Prelude.{◌%◌, ◌*◌, ◌+◌, ◌<◌, ◌==◌, ◌∷◌, ◌≡◌, ◌≢◌, ◌≤◌, ◌⊎◌, Bool, IsSomeAnd, Some, [], false, min}
use Rattle.{net_plan.specs.Bounds.gamma_of, tte_units.specs.Amount.amount}
use Rattle.net_plan.specs.{Places.{IsEndSystem, device_at, is_end_system, link_at}, declared.tables.Row.Row}
use Rattle.net_plan.specs.declared.{ids.DeviceId.DeviceId, network.Network.Network, tables.VirtualLink.VirtualLink}
use Rattle.{net_plan.specs.declared.ids.VlId.VlId, tte_units.specs.declared.frames.channel.Channel.Channel}
use Rattle.schedule_tables.specs.Entries.{IsEntry, IsOnChannel, source_by, source_of, target_of}
use Rattle.schedule_tables.specs.{Windows.{port_time, window_end}, declared.entry.Entry.Entry}

-- the row's window ends before the cycle does, with room for the precision
abbrev pub EndsInCycle : Network → ℕ → Type 0
EndsInCycle network place =
    (entry : Entry) → IsEntry network place entry
    → window_end network entry + 4 * amount network.precision ≤ amount network.cycle

-- the virtual link has not the name of an earlier one
abbrev pub VlNameIsNew : Network → ℕ → Type 0
VlNameIsNew network place =
    (k : ℕ) (earlier vl : VirtualLink) → k < place
    → slice_get network.vl k ≡ Some earlier → slice_get network.vl place ≡ Some vl
    → vl.name ≢ earlier.name

-- the virtual link has not the id of an earlier one
abbrev pub VlIdIsNew : Network → ℕ → Type 0
VlIdIsNew network place =
    (k : ℕ) (earlier vl : VirtualLink) → k < place
    → slice_get network.vl k ≡ Some earlier → slice_get network.vl place ≡ Some vl
    → vl.id ≢ earlier.id

-- the virtual link's period is a power of two up to 64, and its phase is one of the period's cycles
abbrev pub HasPeriod : Network → ℕ → Type 0
HasPeriod network place =
    (vl : VirtualLink) → slice_get network.vl place ≡ Some vl
    → Contains (1 ∷ 2 ∷ 4 ∷ 8 ∷ 16 ∷ 32 ∷ 64 ∷ []) vl.period × (vl.phase < vl.period)

-- the virtual link's sender is an end system
abbrev pub HasEndSystemAsSender : Network → ℕ → Type 0
HasEndSystemAsSender network place =
    (vl : VirtualLink) → slice_get network.vl place ≡ Some vl → IsEndSystem network vl.sender

-- no earlier row of the same virtual link goes by the row's link
abbrev pub GoesOnceByLink : Network → ℕ → Type 0
GoesOnceByLink network place =
    (k : ℕ) (earlier row : Row) → k < place
    → slice_get network.row k ≡ Some earlier → slice_get network.row place ≡ Some row
    → row.vl ≡ earlier.vl → row.link ≢ earlier.link

-- the device is a switch
abbrev pub IsSwitch : Network → DeviceId → Type 0
IsSwitch network device = IsSomeAnd (device_at network device) (λ d. is_end_system d.role ≡ false)

-- the row at the place is of the virtual link, and the device is the one that it enters
pub record Enters (network : Network) (place : ℕ) (vl : VlId) (device : DeviceId) : Type 0 where
  pub entry : Entry
  pub is : IsEntry network place entry
  pub same_vl : entry.row.vl ≡ vl
  pub target : target_of entry ≡ device

-- the row leaves its virtual link's sender, or a switch that another row of the virtual link enters
abbrev pub HasSource : Network → ℕ → Type 0
HasSource network place =
    (entry : Entry) → IsEntry network place entry
    → (source_of entry ≡ entry.vl.sender)
    ⊎ (IsSwitch network (source_of entry) × ((k : ℕ) × (k ≢ place) × Enters network k entry.row.vl (source_of entry)))

-- the row enters neither its sender, nor a switch that an earlier row of its virtual link enters, nor an
-- end system that an earlier row of its virtual link enters on the same channel
pub record EntersAnew (network : Network) (place : ℕ) : Type 0 where
  pub no_sender : (entry : Entry) → IsEntry network place entry → target_of entry ≢ entry.vl.sender
  pub switches : (k : ℕ) (earlier entry : Entry) → k < place
      → IsEntry network k earlier → IsEntry network place entry → entry.row.vl ≡ earlier.row.vl
      → IsSwitch network (target_of entry) → target_of entry ≢ target_of earlier
  pub end_systems : (k : ℕ) (earlier entry : Entry) (channel : Channel) → k < place
      → IsEntry network k earlier → IsEntry network place entry → entry.row.vl ≡ earlier.row.vl
      → IsEndSystem network (target_of entry) → IsOnChannel network channel earlier → IsOnChannel network channel entry
      → target_of entry ≢ target_of earlier

-- two virtual links occur in one cycle: their phases are equal modulo the smaller period
abbrev pub Coincide : VirtualLink → VirtualLink → Type 0
Coincide vl other = vl.phase % min vl.period other.period ≡ other.phase % min vl.period other.period

-- the entry's frame has left the port, and the clocks may have drifted, when the other is dispatched
abbrev pub IsClearBefore : Network → Entry → Entry → Type 0
IsClearBefore network entry other =
    amount entry.row.offset + port_time entry + gamma_of network ≤ amount other.row.offset

-- the row and each earlier one of its link and way that occurs in one cycle with it stand apart, the
-- one or the other first
abbrev pub StandsApart : Network → ℕ → Type 0
StandsApart network place =
    (k : ℕ) (earlier entry : Entry) → k < place
    → IsEntry network k earlier → IsEntry network place entry
    → entry.row.link ≡ earlier.row.link → entry.row.way ≡ earlier.row.way → Coincide entry.vl earlier.vl
    → IsClearBefore network earlier entry ⊎ IsClearBefore network entry earlier

-- a row of the virtual link leaves the device on the channel
pub record LeavesOn (network : Network) (vl : VlId) (channel : Channel) (device : DeviceId) : Type 0 where
  pub place : ℕ
  pub entry : Entry
  pub is : IsEntry network place entry
  pub same_vl : entry.row.vl ≡ vl
  pub on_channel : IsOnChannel network channel entry
  pub source : source_of entry ≡ device

-- a row of the virtual link enters the device on the channel
pub record EntersOn (network : Network) (vl : VlId) (channel : Channel) (device : DeviceId) : Type 0 where
  pub place : ℕ
  pub entry : Entry
  pub is : IsEntry network place entry
  pub same_vl : entry.row.vl ≡ vl
  pub on_channel : IsOnChannel network channel entry
  pub target : target_of entry ≡ device

-- the virtual link leaves its sender on both channels, enters an end system, and enters the same end
-- systems on both
pub record GoesByBothChannels (network : Network) (place : ℕ) : Type 0 where
  pub leaves : (vl : VirtualLink) (channel : Channel) → slice_get network.vl place ≡ Some vl
      → LeavesOn network (record { 0 = place }) channel vl.sender
  pub enters : (vl : VirtualLink) → slice_get network.vl place ≡ Some vl → (channel : Channel) × (device : DeviceId)
      × IsEndSystem network device × EntersOn network (record { 0 = place }) channel device
  pub same : (device : DeviceId) (channel other : Channel) → IsEndSystem network device
      → EntersOn network (record { 0 = place }) channel device → EntersOn network (record { 0 = place }) other device

-- a row that leaves its sender comes when the schedule has begun; any other comes behind the window of
-- its virtual link's row that enters its source
pub record ComesInTime (network : Network) (place : ℕ) : Type 0 where
  pub from_sender : (entry : Entry) → IsEntry network place entry → source_of entry ≡ entry.vl.sender
      → amount network.tt_start ≤ amount entry.row.offset
  pub from_switch : (k : ℕ) (entering entry : Entry)
      → IsEntry network k entering → IsEntry network place entry → entry.row.vl ≡ entering.row.vl
      → source_of entry ≢ entry.vl.sender → target_of entering ≡ source_of entry
      → window_end network entering < amount entry.row.offset

-- does the row leave the device?
abbrev pub leaves : Network → DeviceId → Row → Bool
leaves network device row =
    option_map_or (λ link. (source_by row.way link).0 == device.0) (link_at network row.link) false

-- at most 256 rows leave the device
abbrev pub HasFewRows : Network → ℕ → Type 0
HasFewRows network place = count_by (leaves network (record { 0 = place })) network.row ≤ 256
