use Rattle.std.specs.Prelude.{◌<◌, ◌∷◌, ◌≡◌, ◌≤◌, IsSomeAnd, List, [], length}
use Rattle.tte_units.specs.declared.frames.channel.Channel.{Channel}
use Rattle.net_plan.specs.{Places.{IsCmOf, IsDeviceOf, IsSwitchOf, link_at}, declared.ids.DeviceId.DeviceId}
use Rattle.net_plan.specs.declared.{ids.LinkId.LinkId, network.Network.Network}

-- the link leads from the device to a switch of the channel, its parent
abbrev pub IsUplink : Network → Channel → DeviceId → LinkId → Type 0
IsUplink network channel device link =
    IsSomeAnd (link_at network link) (λ l. (l.child ≡ device) × IsSwitchOf network channel l.parent)

-- the link is an uplink of the device, and no link before it is one
pub record IsFirstUplink (network : Network) (channel : Channel) (device : DeviceId) (link : LinkId) : Type 0 where
  pub leads : IsUplink network channel device link
  pub first : (earlier : LinkId) → earlier.0 < link.0 → IsUplink network channel device earlier → ⊥

-- the links lead from the device to the channel's compression master: the first has the device as
-- its child, and each one's parent is the child of the next
abbrev pub IsPath : Network → Channel → DeviceId → List LinkId → Type 0
IsPath network channel device [] = IsCmOf network channel device
IsPath network channel device (link ∷ links) =
    IsSomeAnd (link_at network link)
    (λ l. (l.child ≡ device) × IsSwitchOf network channel l.parent × IsPath network channel l.parent links)

-- the same, where each link is the first of its child's uplinks
abbrev pub IsFirstPath : Network → Channel → DeviceId → List LinkId → Type 0
IsFirstPath network channel device [] = IsCmOf network channel device
IsFirstPath network channel device (link ∷ links) =
    IsFirstUplink network channel device link
    × IsSomeAnd (link_at network link) (λ l. IsFirstPath network channel l.parent links)

-- some path of the device on the channel has at most eight links
abbrev pub HasPath : Network → Channel → DeviceId → Type 0
HasPath network channel device = (links : List LinkId) × (length links ≤ 8) × IsPath network channel device links

-- from the device the first uplinks lead to the channel's compression master over at most eight links
abbrev pub LeadsToCm : Network → Channel → DeviceId → Type 0
LeadsToCm network channel device = (links : List LinkId) × (length links ≤ 8) × IsFirstPath network channel device links

-- each channel is a tree: its compression master is its root, no device has two uplinks, and each
-- device of the channel has a path
pub record IsTree (network : Network) : Type 0 where
  pub root : (channel : Channel) (cm : DeviceId) (link : LinkId) → IsCmOf network channel cm
      → IsUplink network channel cm link → ⊥
  pub one_uplink : (channel : Channel) (device : DeviceId) (link other : LinkId) → IsUplink network channel device link
      → IsUplink network channel device other → link ≡ other
  pub reach : (channel : Channel) (device : DeviceId) → IsDeviceOf network channel device
      → HasPath network channel device

-- a device has no two paths on a channel
abbrev pub PathsAreUnique : Type 0
PathsAreUnique =
    (network : Network) (channel : Channel) (device : DeviceId) (links others : List LinkId)
    → IsTree network → IsPath network channel device links → IsPath network channel device others
    → links ≡ others
