-- The rules of a network's shape. Each says that it is kept at an index: the place of a device or a
-- link, or the number of a part.
use Rattle.std.specs.{List.{All, count_by, filter}, Prelude.{if◌then◌else◌, is_some, length, slice_get, ℕ}}
use Rattle.std.specs.Prelude.{◌+◌, ◌<◌, ◌==◌, ◌≡◌, ◌≢◌, ◌≤ℤ◌, ◌≤◌, ◌⊎◌, IfSome, IsNone, IsSomeAnd, List, Some}
use Rattle.tte_units.specs.declared.frames.channel.Channel.{Channel, TheVariants.{A, B}}
use Rattle.net_plan.specs.{Paths.{IsTree, IsUplink, LeadsToCm}, declared.tables.{Device.Device, Role.TheVariants.Relay}}
use Rattle.net_plan.specs.Places.{IsCmOf, IsDeviceOf, IsEndSystem, IsRoleOf, IsSwitchOf, device_at, is_master, link_at}
use Rattle.net_plan.specs.declared.{ids.{DeviceId.DeviceId, LinkId.LinkId}, network.Network.Network, tables.Link.Link}

-- exactly one thing has the property
abbrev pub ExactlyOne : {X : Type 0} → (X → Type 0) → Type 0
ExactlyOne {X} Has = (x : X) × Has x × ((y : X) → Has y → y ≡ x)

-- parts 0 to 3: at most 64 devices, 128 links, 64 virtual links and 1,024 rows
pub record IsWithinLimits (network : Network) (part : ℕ) : Type 0 where
  pub devices : part ≡ 0 → length network.device ≤ 64
  pub links : part ≡ 1 → length network.link ≤ 128
  pub vls : part ≡ 2 → length network.vl ≤ 64
  pub rows : part ≡ 3 → length network.row ≤ 1024

-- the device at the index has neither the name nor the address of an earlier one
abbrev pub DeviceIsNew : Network → ℕ → Type 0
DeviceIsNew network i =
    (k : ℕ) (earlier device : Device) → k < i
    → slice_get network.device k ≡ Some earlier → slice_get network.device i ≡ Some device
    → (device.name ≢ earlier.name) × (device.mac ≢ earlier.mac)

-- the link at the index has not the name of an earlier one
abbrev pub LinkIsNew : Network → ℕ → Type 0
LinkIsNew network i =
    (k : ℕ) (earlier link : Link) → k < i
    → slice_get network.link k ≡ Some earlier → slice_get network.link i ≡ Some link
    → link.name ≢ earlier.name

-- parts 0 and 1: channel a, and channel b, has exactly one compression master
pub record HasOneCm (network : Network) (part : ℕ) : Type 0 where
  pub on_a : part ≡ 0 → ExactlyOne (IsCmOf network A)
  pub on_b : part ≡ 1 → ExactlyOne (IsCmOf network B)

-- the link's parent is a switch, and its child is an end system or a relay of the parent's channel
abbrev pub JoinsChildToSwitch : Network → ℕ → Type 0
JoinsChildToSwitch network i =
    (link : Link) → slice_get network.link i ≡ Some link
    → (channel : Channel) × IsSwitchOf network channel link.parent
    × (IsEndSystem network link.child ⊎ IsRoleOf network Relay channel link.child)

-- the device is the child of the link
abbrev pub IsChildOf : Network → DeviceId → LinkId → Type 0
IsChildOf network device link = IsSomeAnd (link_at network link) (λ l. l.child ≡ device)

-- an end system is the child of exactly one link of each channel, a relay of exactly one link, and
-- from each device the first uplinks lead to the compression master of each of its channels over at
-- most eight links
pub record IsConnected (network : Network) (i : ℕ) : Type 0 where
  pub ends : IsEndSystem network (record { 0 = i }) → (channel : Channel)
      → ExactlyOne (IsUplink network channel (record { 0 = i }))
  pub relays : (channel : Channel) → IsRoleOf network Relay channel (record { 0 = i })
      → ExactlyOne (IsChildOf network (record { 0 = i }))
  pub paths : (channel : Channel) → IsDeviceOf network channel (record { 0 = i })
      → LeadsToCm network channel (record { 0 = i })

-- the masters of the network
abbrev pub masters : Network → List Device
masters network = filter (λ d. is_master d.role) network.device

-- how many masters a network of this version may have
abbrev pub most_masters : ℕ → ℕ
most_masters version = if version == 1 then 5 else 8

-- no two masters have the same member number
abbrev pub MembersDiffer : Network → Type 0
MembersDiffer network =
    (j k : ℕ) (d e : Device) → j < k
    → slice_get (masters network) j ≡ Some d → slice_get (masters network) k ≡ Some e
    → d.member ≢ e.member

-- some switch of the channel begins off
abbrev pub HasOffSwitch : Network → Channel → Type 0
HasOffSwitch network channel =
    (device : DeviceId)
    × IsSomeAnd (device_at network device) (λ d. (d.channel ≡ Some channel) × IsNone d.start)

-- parts 0 to 5: the count of masters, their numbers, the threshold of members, the masters that
-- begin on, the starts, and the channels with a switch that begins off
pub record MastersSuffice (network : Network) (part : ℕ) : Type 0 where
  pub least : part ≡ 0 → 4 ≤ length (masters network)
  pub most : part ≡ 0 → length (masters network) ≤ most_masters network.version
  pub members : part ≡ 1 → MembersDiffer network
  pub threshold_least : part ≡ 2 → 3 ≤ network.sync_threshold
  pub threshold_most : part ≡ 2 → network.sync_threshold + 1 ≤ length (masters network)
  pub begin_on : part ≡ 3 → network.sync_threshold ≤ count_by (λ d. is_some d.start) (masters network)
  pub starts : part ≡ 4 → All (λ d. IfSome d.start (λ start. start.0 ≤ℤ network.settled.0)) network.device
  pub one_faulty : part ≡ 5 → (c e : Channel) → HasOffSwitch network c → HasOffSwitch network e → c ≡ e

-- the network keeps these rules at each index
pub record KeepsShapeRules (network : Network) : Type 0 where
  pub limits : (part : ℕ) → IsWithinLimits network part
  pub devices : (i : ℕ) → DeviceIsNew network i
  pub links : (i : ℕ) → LinkIsNew network i
  pub cms : (part : ℕ) → HasOneCm network part
  pub joins : (i : ℕ) → JoinsChildToSwitch network i
  pub connected : (i : ℕ) → IsConnected network i
  pub masters_suffice : (part : ℕ) → MastersSuffice network part

-- a network that keeps these rules is a tree on each channel
abbrev pub RulesGiveTrees : Type 0
RulesGiveTrees = (network : Network) → KeepsShapeRules network → IsTree network
