-- The tree of a channel.
use Rattle.std.specs.{List.count_by, Option.option_map_or}
use Rattle.std.specs.Prelude.{◌*◌, ◌++◌, ◌+◌, ◌-◌, ◌∷◌, ◌≡◌, ◌⊎◌, List, None, Some, [], length}
use Rattle.std.specs.Prelude.{if◌then◌else◌, nat_lt, slice_get, suc, zero, ℕ}
use Rattle.lens_schedule.specs.{Lanes.column_of, declared.tree.Twig.Twig}
use Rattle.net_plan.specs.{Paths.IsPath, Places.IsDeviceOf, declared.ids.{DeviceId.DeviceId, LinkId.LinkId}}
use Rattle.{net_plan.specs.declared.network.Network.Network, tte_units.specs.declared.frames.channel.Channel.Channel}

-- a digit of a path, from the root: the link that is so far from it, or 0 behind the path's end
abbrev pub digit_of : List LinkId → ℕ → ℕ
digit_of links level =
    if nat_lt level (length links)
    then option_map_or (λ link. link.0 + 1) (slice_get links (length links - 1 - level)) 0
    else 0

-- so many digits as a number
abbrev pub spelled : List LinkId → ℕ → ℕ
spelled links zero = 0
spelled links (suc level) = spelled links level * 256 + digit_of links level

-- the place of a device with this path in the order of the tree: behind its parent, and before the parent's next link
abbrev pub place_of : List LinkId → ℕ
place_of links = spelled links 8

-- the device of the channel with this path
abbrev pub twig_by : Channel → DeviceId → List LinkId → Twig
twig_by channel device [] =
    record { device = device; link = None; x = column_of channel + 20; place = 0; parent = 0 }
twig_by channel device (link ∷ links) = record {
  device = device;
  link = Some link;
  x = column_of channel + 20 + 16 * (length links + 1);
  place = place_of (link ∷ links);
  parent = place_of links;
}

-- the device with its path
abbrev pub IsTwig : Network → Channel → DeviceId → Twig → Type 0
IsTwig network channel device twig =
    (links : List LinkId) × IsPath network channel device links × (twig ≡ twig_by channel device links)

-- the device of this number, if it is of the channel
abbrev pub IsTwigAt : Network → Channel → ℕ → List Twig → Type 0
IsTwigAt network channel number twigs =
    ((twig : Twig) × IsDeviceOf network channel (record { 0 = number })
    × IsTwig network channel (record { 0 = number }) twig × (twigs ≡ twig ∷ []))
    ⊎ (¬ IsDeviceOf network channel (record { 0 = number }) × (twigs ≡ []))

-- those of the devices below this number, in their order
abbrev pub AreTwigsBelow : Network → Channel → ℕ → List Twig → Type 0
AreTwigsBelow network channel zero twigs = twigs ≡ []
AreTwigsBelow network channel (suc n) twigs =
    (before last : List Twig) × AreTwigsBelow network channel n before × IsTwigAt network channel n last
    × (twigs ≡ before ++ last)

-- all of them
abbrev pub AreTwigs : Network → Channel → List Twig → Type 0
AreTwigs network channel twigs = AreTwigsBelow network channel (length network.device) twigs

-- how many devices of the tree are before the place
abbrev pub twigs_before : List Twig → ℕ → ℕ
twigs_before twigs place = count_by (λ twig. nat_lt twig.place place) twigs
