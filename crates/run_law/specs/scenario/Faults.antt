-- What the events have broken, turned on and cut.
use Rattle.std.specs.Prelude.{◌++◌, ◌∷◌, ◌≡◌, ◌⊎◌, Any, IsNone, IsSomeAnd, List}
use Rattle.net_plan.specs.{Places.{IsSwitchOf, device_at, link_at}, Rules.HasOffSwitch, declared.event.Event.Event}
use Rattle.net_plan.specs.declared.{event.What.TheVariants.{Break, Cut, On}, ids.{DeviceId.DeviceId, LinkId.LinkId}}
use Rattle.net_plan.specs.declared.{network.Network.Network, tables.Way.Way}
use Rattle.tte_units.specs.declared.frames.channel.Channel.{Channel}

-- the event breaks the device
abbrev pub Breaks : DeviceId → Event → Type 0
Breaks device event = event.what ≡ Break device

-- the event turns the device on
abbrev pub TurnsOn : DeviceId → Event → Type 0
TurnsOn device event = event.what ≡ On device

-- the event cuts a way of the link
abbrev pub Cuts : LinkId → Event → Type 0
Cuts link event = (way : Way) × (event.what ≡ Cut link way)

-- one of the events breaks the device; a device that no event breaks is correct
abbrev pub IsBroken : List Event → DeviceId → Type 0
IsBroken events device = Any (Breaks device) events

-- one of the events turns the device on
abbrev pub IsTurnedOn : List Event → DeviceId → Type 0
IsTurnedOn events device = Any (TurnsOn device) events

-- the device begins on
abbrev pub BeginsOn : Network → DeviceId → Type 0
BeginsOn network device = IsSomeAnd (device_at network device) (λ d. IsNone d.start → ⊥)

-- the link is one of the channel, which is that of its parent
abbrev pub IsLinkOf : Network → Channel → LinkId → Type 0
IsLinkOf network channel link = IsSomeAnd (link_at network link) (λ l. IsSwitchOf network channel l.parent)

-- the event cuts a link of the channel
abbrev pub CutsOn : Network → Channel → Event → Type 0
CutsOn network channel event = (link : LinkId) × Cuts link event × IsLinkOf network channel link

-- the first of the events that cuts a link cuts one of the channel
pub record IsFirstCutOn (network : Network) (channel : Channel) (events : List Event) : Type 0 where
  pub before : List Event
  pub cut : Event
  pub behind : List Event
  pub order : events ≡ before ++ cut ∷ behind
  pub none_before : (link : LinkId) → Any (Cuts link) before → ⊥
  pub cuts : CutsOn network channel cut

-- the channel is the faulty one: it has a switch that begins off; or no channel has, and it is that of the
-- first cut. A heal leaves it the faulty one
abbrev pub IsFaulty : Network → List Event → Channel → Type 0
IsFaulty network events channel =
    HasOffSwitch network channel
    ⊎ (((other : Channel) → HasOffSwitch network other → ⊥) × IsFirstCutOn network channel events)
