-- All virtual links with their receivers.
use Rattle.std.specs.Prelude.{◌++◌, ◌+◌, ◌<◌, ◌∷◌, ◌≡◌, ◌⊎◌, List, None, Option, Some, [], length, suc, zero, ℕ}
use Rattle.{lens_latency.specs.{Trips.IsTrip, declared.comings.Coming.Coming}, net_plan.specs.Places.IsEndSystem}
use Rattle.net_plan.specs.declared.{ids.{DeviceId.DeviceId, VlId.VlId}, network.Network.Network}
use Rattle.tte_units.specs.declared.frames.channel.Channel.{TheVariants.{A, B}}

-- how the frames of the virtual link come to the device, or none where it is no end system or has no rows on a channel
abbrev pub IsComing : Network → VlId → DeviceId → Option Coming → Type 0
IsComing network vl device None =
    ¬ IsEndSystem network device ⊎ IsTrip network vl device A None ⊎ IsTrip network vl device B None
IsComing network vl device (Some c) =
    IsEndSystem network device × IsTrip network vl device A (Some c.a) × IsTrip network vl device B (Some c.b)
    × (c.vl ≡ vl) × (c.device ≡ device)

-- the coming, if there is one
abbrev pub some_coming : Option Coming → List Coming
some_coming None = []
some_coming (Some c) = c ∷ []

-- so many parts from the one of this number on, one behind the other
abbrev pub InParts : {X : Type 0} → (ℕ → List X → Type 0) → ℕ → ℕ → List X → Type 0
InParts IsPart first zero xs = xs ≡ []
InParts {X} IsPart first (suc n) xs =
    (part others : List X) × IsPart first part × InParts IsPart (first + 1) n others × (xs ≡ part ++ others)

-- the coming at the device of this number
abbrev pub IsPartAt : Network → ℕ → ℕ → List Coming → Type 0
IsPartAt network vl device cs =
    (c : Option Coming) × IsComing network (record { 0 = vl }) (record { 0 = device }) c × (cs ≡ some_coming c)

-- those of the virtual link of this number, in the order of the devices
abbrev pub IsPartOf : Network → ℕ → List Coming → Type 0
IsPartOf network vl cs = InParts (IsPartAt network vl) 0 (length network.device) cs

-- those of all virtual links, in their order
abbrev pub AreComings : Network → List Coming → Type 0
AreComings network cs = InParts (IsPartOf network) 0 (length network.vl) cs

-- a part was added
abbrev pub Pushes : {X : Type 0} → (List X → Type 0) → List X → List X → Type 0
Pushes {X} IsPart old new = (part : List X) × IsPart part × (new ≡ old ++ part)

-- the virtual link and the device are the network's
pub record HasNames (network : Network) (c : Coming) : Type 0 where
  pub vl : c.vl.0 < length network.vl
  pub device : c.device.0 < length network.device
