-- What belongs to a network, and the names of its things.
use Rattle.std.specs.{Option.option_map_or, Prelude.{◌<◌, List, [], length, slice_get, ℕ, ⊤}}
use Rattle.net_plan.specs.{Places.{device_at, link_at}, declared.event.What.What}
use Rattle.net_plan.specs.declared.event.What.TheVariants.{Break, Cut, End, Heal, Hold, On, Rate, Send, Wire}
use Rattle.net_plan.specs.declared.{ids.{DeviceId.DeviceId, LinkId.LinkId, VlId.VlId}, network.Network.Network}

-- the device is one of the network's
abbrev pub HasDevice : Network → DeviceId → Type 0
HasDevice network device = device.0 < length network.device

-- the link is one of the network's
abbrev pub HasLink : Network → LinkId → Type 0
HasLink network link = link.0 < length network.link

-- the virtual link is one of the network's
abbrev pub HasVl : Network → VlId → Type 0
HasVl network vl = vl.0 < length network.vl

-- the device and the link of the event are the network's
abbrev pub IsOfNetwork : Network → What → Type 0
IsOfNetwork network (Rate device rate) = HasDevice network device
IsOfNetwork network (Wire link way delay) = HasLink network link
IsOfNetwork network (Hold link way delay) = HasLink network link
IsOfNetwork network (Cut link way) = HasLink network link
IsOfNetwork network (Heal link way) = HasLink network link
IsOfNetwork network (On device) = HasDevice network device
IsOfNetwork network (Break device) = HasDevice network device
IsOfNetwork network (Send link octets) = HasLink network link
IsOfNetwork network End = ⊤

-- the name of a device of the network
abbrev pub device_name : Network → DeviceId → List ℕ
device_name network device = option_map_or (λ d. d.name) (device_at network device) []

-- the name of a link of the network
abbrev pub link_name : Network → LinkId → List ℕ
link_name network link = option_map_or (λ l. l.name) (link_at network link) []

-- the name of a virtual link of the network
abbrev pub vl_name : Network → VlId → List ℕ
vl_name network vl = option_map_or (λ v. v.name) (slice_get network.vl vl.0) []
