-- The things of a network by their names.
use Rattle.std.specs.{List.position_from, Option.option_map, Prelude.{List, Option, bytes_eq, ℕ}}
use Rattle.net_plan.specs.{Bearers.{device_names, link_names}, declared.ids.{DeviceId.DeviceId, LinkId.LinkId}}
use Rattle.net_plan.specs.declared.network.Network.{Network}

-- the place of the first of these names that is the text
abbrev pub first_place : List (List ℕ) → List ℕ → Option ℕ
first_place names text = position_from (bytes_eq text) 0 names

-- the id of the device at this place
abbrev pub device_id : ℕ → DeviceId
device_id i = record { 0 = i }

-- the id of the link at this place
abbrev pub link_id : ℕ → LinkId
link_id i = record { 0 = i }

-- the first device of this name
unfoldable pub device_spelled : Network → List ℕ → Option DeviceId
device_spelled network text = option_map device_id (first_place (device_names network.device) text)

-- the first link of this name
unfoldable pub link_spelled : Network → List ℕ → Option LinkId
link_spelled network text = option_map link_id (first_place (link_names network.link) text)
