-- Parts of the rules of a network's shape.
use Rattle.std.specs.Prelude.{◌≤◌, ◌⊎◌, List, length, ℕ}
use Rattle.net_plan.specs.{Paths.{IsFirstPath, IsUplink, LeadsToCm}, declared.tables.Role.TheVariants.Relay}
use Rattle.net_plan.specs.{Places.{IsDeviceOf, IsEndSystem, IsRoleOf, IsSwitchOf}, declared.network.Network.Network}
use Rattle.net_plan.specs.{Rules.{ExactlyOne, IsChildOf}, declared.{ids.LinkId.LinkId, tables.Link.Link}}
use Rattle.{net_plan.specs.declared.ids.DeviceId.DeviceId, tte_units.specs.declared.frames.channel.Channel.Channel}

-- the link's parent is a switch of the channel, and its child an end system or a relay of the channel
abbrev pub JoinsOn : Network → Channel → Link → Type 0
JoinsOn network channel link =
    IsSwitchOf network channel link.parent
    × (IsEndSystem network link.child ⊎ IsRoleOf network Relay channel link.child)

-- an end system is the child of exactly one link of the channel, a relay of the channel of exactly one
-- link, and from a device of the channel the first uplinks lead to its compression master
pub record IsConnectedOn (network : Network) (channel : Channel) (device : DeviceId) : Type 0 where
  pub end : IsEndSystem network device → ExactlyOne (IsUplink network channel device)
  pub relay : IsRoleOf network Relay channel device → ExactlyOne (IsChildOf network device)
  pub path : IsDeviceOf network channel device → LeadsToCm network channel device

-- from the device the first uplinks lead to the channel's compression master over at most so many links
abbrev pub LeadsToCmWithin : Network → Channel → DeviceId → ℕ → Type 0
LeadsToCmWithin network channel device most =
    (links : List LinkId) × (length links ≤ most) × IsFirstPath network channel device links
