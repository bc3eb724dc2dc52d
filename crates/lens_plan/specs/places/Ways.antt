-- The ways of a message's frames to its receivers.
use Rattle.std.specs.{List.list_any, Prelude.{◌++◌, ◌==◌, ◌∷◌, ◌≡◌, Bool, List, [], if◌then◌else◌}}
use Rattle.lens_plan.specs.declared.places.ways.Hop.{Hop}
use Rattle.net_plan.specs.declared.{ids.{DeviceId.DeviceId, LinkId.LinkId}, network.Network.Network}
use Rattle.net_plan.specs.declared.tables.Way.{Way, TheVariants.{Down, Up}}
use Rattle.net_plan.specs.Paths.{IsPath}
use Rattle.tte_units.specs.declared.frames.channel.Channel.{Channel}

-- is the link one of these?
abbrev pub is_on : List LinkId → LinkId → Bool
is_on path link = list_any (λ other. other.0 == link.0) path

abbrev pub hop_by : Way → LinkId → Hop
hop_by way link = record { link = link; way = way }

-- the links of the path that are not on the other, upwards
abbrev pub up_hops : List LinkId → List LinkId → List Hop
up_hops other [] = []
up_hops other (link ∷ path) = if is_on other link then up_hops other path else hop_by Up link ∷ up_hops other path

-- the same downwards, from the last one on
abbrev pub down_hops : List LinkId → List LinkId → List Hop
down_hops other [] = []
down_hops other (link ∷ path) =
    if is_on other link then down_hops other path else down_hops other path ++ hop_by Down link ∷ []

-- the way by the channel: up the links that only the sender's path has, and down those that only the receiver's has
pub record IsWay (network : Network) (sender receiver : DeviceId) (channel : Channel) (hops : List Hop) : Type 0 where
  pub from : List LinkId
  pub to : List LinkId
  pub from_path : IsPath network channel sender from
  pub to_path : IsPath network channel receiver to
  pub is : hops ≡ up_hops to from ++ down_hops from to

-- what has the property stands behind the others
abbrev pub Adds : {X : Type 0} → (List X → Type 0) → List X → List X → Type 0
Adds {X} Is old new = (added : List X) × Is added × (new ≡ old ++ added)
