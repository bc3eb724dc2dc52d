-- What a page tells of a network, in lines of words.
--
--     cycle UNITS
--     precision UNITS
--     device NAME ROLE CHANNEL
--     link NAME CHILD PARENT CHANNEL
--     vl NAME SENDER
--
-- The channel of a device stands where it is a switch; the channel of a link is that of its parent.
use Rattle.std.specs.{List.concat, Option.option_and_then}
use Rattle.std.specs.Prelude.{◌++◌, ◌∷◌, List, None, Option, Some, [], codes, decimal, map, ℕ}
use Rattle.net_plan.specs.{Belonging.device_name, Places.device_at, declared.network.Network.Network}
use Rattle.net_plan.specs.declared.tables.{Device.Device, Link.Link, Role.Role, VirtualLink.VirtualLink}
use Rattle.net_plan.specs.declared.tables.Role.TheVariants.{Client, Cm, Master, Relay}
use Rattle.tte_units.specs.{Amount.amount, declared.units.Units.Units}
use Rattle.tte_units.specs.declared.frames.channel.Channel.{Channel, TheVariants.{A, B}}

-- a number of the network
unfoldable pub number_line : List ℕ → Units → List ℕ
number_line word units = word ++ (codes " " ++ (decimal (amount units) ++ codes "\n"))

-- the word of a role
abbrev pub role_word : Role → List ℕ
role_word Master = codes "master"
role_word Client = codes "client"
role_word Cm = codes "cm"
role_word Relay = codes "relay"

-- a channel, where there is one
abbrev pub channel_words : Option Channel → List ℕ
channel_words (Some A) = codes " a"
channel_words (Some B) = codes " b"
channel_words None = []

-- a device
unfoldable pub device_line : Device → List ℕ
device_line device =
    codes "device " ++ (device.name ++ (codes " "
    ++ (role_word device.role ++ (channel_words device.channel ++ codes "\n"))))

-- the channel of a link's parent
abbrev pub channel_of : Network → Link → Option Channel
channel_of network link = option_and_then (λ d. d.channel) (device_at network link.parent)

-- the two ends of a link
unfoldable pub ends_words : Network → Link → List ℕ
ends_words network link =
    codes " " ++ (device_name network link.child ++ (codes " " ++ device_name network link.parent))

-- a link
unfoldable pub link_line : Network → Link → List ℕ
link_line network link =
    codes "link " ++ (link.name ++ (ends_words network link ++ (channel_words (channel_of network link) ++ codes "\n")))

-- a virtual link
unfoldable pub vl_line : Network → VirtualLink → List ℕ
vl_line network vl = codes "vl " ++ (vl.name ++ (codes " " ++ (device_name network vl.sender ++ codes "\n")))

-- all lines of the network
abbrev pub network_lines : Network → List (List ℕ)
network_lines network =
    number_line (codes "cycle") network.cycle
    ∷ number_line (codes "precision") network.precision
    ∷ (map device_line network.device ++ (map (link_line network) network.link ++ map (vl_line network) network.vl))

-- their text
abbrev pub network_text : Network → List ℕ
network_text network = concat (network_lines network)
