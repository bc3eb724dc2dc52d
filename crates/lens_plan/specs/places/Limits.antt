-- How many virtual links and rows there would be, and whether a network may have so many.
use Rattle.std.specs.{List.{count_by, filter_map, find, range_with_len}, Option.option_map_or}
use Rattle.std.specs.Prelude.{◌++◌, ◌+◌, ◌<◌, ◌==◌, ◌∷◌, ◌≡◌, ◌≤◌, Bool, List, None, Option, Some, [], false, length, ℕ}
use Rattle.lens_plan.specs.declared.places.limits.Excess.{Excess, TheVariants.{Rows, RowsOf, VirtualLinks}}
use Rattle.lens_plan.specs.declared.places.ways.Hop.{Hop}
use Rattle.lens_plan.specs.{messages.Message.Message, places.Ways.IsWay}
use Rattle.net_plan.specs.{Places.link_at, declared.{ids.DeviceId.DeviceId, network.Network.Network}}
use Rattle.schedule_tables.specs.{Entries.source_by, Schedule.leaves}
use Rattle.tte_units.specs.declared.frames.channel.Channel.TheVariants.{A, B}

-- the hops of the ways to these receivers, by channel a and channel b each
abbrev pub AreWays : Network → DeviceId → List DeviceId → List Hop → Type 0
AreWays network sender [] hops = hops ≡ []
AreWays network sender (receiver ∷ receivers) hops =
    (a b others : List Hop) × IsWay network sender receiver A a × IsWay network sender receiver B b
    × AreWays network sender receivers others × (hops ≡ a ++ (b ++ others))

-- the first of the hops by the link of this number
abbrev pub hop_by_link : List Hop → ℕ → Option Hop
hop_by_link hops link = find (λ h. h.link.0 == link) hops

-- one for each link that they go by, in the order of links
abbrev pub once : Network → List Hop → List Hop
once network hops = filter_map (hop_by_link hops) (range_with_len 0 (length network.link))

-- the hops by which these messages go, each message by a link once
abbrev pub AreHops : Network → List Message → List Hop → Type 0
AreHops network [] hops = hops ≡ []
AreHops network (m ∷ ms) hops =
    (ways others : List Hop) × AreWays network m.sender m.receivers ways × AreHops network ms others
    × (hops ≡ once network ways ++ others)

-- does the hop leave the device?
abbrev pub hop_leaves : Network → DeviceId → Hop → Bool
hop_leaves network device hop =
    option_map_or (λ l. (source_by hop.way l).0 == device.0) (link_at network hop.link) false

-- how many rows leave the device: those that are there, and those of the hops
abbrev pub rows_from : Network → List Hop → DeviceId → ℕ
rows_from network hops device =
    count_by (leaves network device) network.row + count_by (hop_leaves network device) hops

-- how many virtual links there would be
abbrev pub links_wanted : Network → List Message → ℕ
links_wanted network ms = length network.vl + length ms

-- how many rows there would be
abbrev pub rows_wanted : Network → List Hop → ℕ
rows_wanted network hops = length network.row + length hops

-- no more rows leave a device than may
abbrev pub AreNotCrowded : Network → List Hop → Type 0
AreNotCrowded network hops =
    (device : DeviceId) → device.0 < length network.device → rows_from network hops device ≤ 256

-- the network may have all rows of the messages: at most 64 virtual links and 1,024 rows, and 256 rows that leave a
-- device
pub record IsWithinLimits (network : Network) (ms : List Message) : Type 0 where
  pub links : links_wanted network ms ≤ 64
  pub hops : List Hop
  pub are : AreHops network ms hops
  pub rows : rows_wanted network hops ≤ 1024
  pub devices : AreNotCrowded network hops

-- there would be so many rows, and more than may be
pub record AreManyRows (network : Network) (ms : List Message) (wants : ℕ) : Type 0 where
  pub links : links_wanted network ms ≤ 64
  pub hops : List Hop
  pub are : AreHops network ms hops
  pub wants_is : wants ≡ rows_wanted network hops
  pub more : 1024 < wants

-- this is the first device that so many rows would leave, and more than may
pub record IsCrowded (network : Network) (hops : List Hop) (device : DeviceId) (wants : ℕ) : Type 0 where
  pub there : device.0 < length network.device
  pub wants_is : wants ≡ rows_from network hops device
  pub more : 256 < wants
  pub first : (earlier : DeviceId) → earlier.0 < device.0 → rows_from network hops earlier ≤ 256

-- the same, of the messages' hops
pub record AreManyFrom (network : Network) (ms : List Message) (device : DeviceId) (wants : ℕ) : Type 0 where
  pub links : links_wanted network ms ≤ 64
  pub hops : List Hop
  pub are : AreHops network ms hops
  pub rows : rows_wanted network hops ≤ 1024
  pub crowded : IsCrowded network hops device wants

-- what there would be more of than may be
abbrev pub IsExcess : Network → List Message → Excess → Type 0
IsExcess network ms (VirtualLinks wants) = (wants ≡ links_wanted network ms) × (64 < wants)
IsExcess network ms (Rows wants) = AreManyRows network ms wants
IsExcess network ms (RowsOf device wants) = AreManyFrom network ms device wants

-- all may be, or this is the first that may not
abbrev pub AreLimits : Network → List Message → Option Excess → Type 0
AreLimits network ms None = IsWithinLimits network ms
AreLimits network ms (Some excess) = IsExcess network ms excess
