use Rattle.std.specs.Prelude.{◌&&◌, ◌==◌, ◌≡◌, ◌⊎◌, Bool, IsSomeAnd, Option, Some, false, position, slice_get, true, ℕ}
use Rattle.{net_plan.specs.declared.ids.DeviceId.DeviceId, tte_units.specs.declared.frames.channel.Channel.Channel}
use Rattle.net_plan.specs.declared.{ids.{LinkId.LinkId, VlId.VlId}, tables.{Device.Device, Link.Link, Role.Role}}
use Rattle.net_plan.specs.declared.{network.Network.Network, tables.Role.TheVariants.{Client, Cm, Master, Relay}}

-- the device of this id
abbrev pub device_at : Network → DeviceId → Option Device
device_at network device = slice_get network.device device.0

-- the link of this id
abbrev pub link_at : Network → LinkId → Option Link
link_at network link = slice_get network.link link.0

-- the place of the row by which the virtual link goes by the link
abbrev pub row_of : Network → VlId → LinkId → Option ℕ
row_of network vl link = position (λ row. row.vl.0 == vl.0 && row.link.0 == link.0) network.row

-- the end systems are the masters and the clients, the others are switches
abbrev pub is_end_system : Role → Bool
is_end_system Master = true
is_end_system Client = true
is_end_system Cm = false
is_end_system Relay = false

-- the role of synchronisation masters
abbrev pub is_master : Role → Bool
is_master Master = true
is_master Client = false
is_master Cm = false
is_master Relay = false

-- the device is an end system
abbrev pub IsEndSystem : Network → DeviceId → Type 0
IsEndSystem network device = IsSomeAnd (device_at network device) (λ d. is_end_system d.role ≡ true)

-- the device is a switch of the channel
abbrev pub IsSwitchOf : Network → Channel → DeviceId → Type 0
IsSwitchOf network channel device = IsSomeAnd (device_at network device) (λ d. d.channel ≡ Some channel)

-- the device has this role and is a switch of the channel
abbrev pub IsRoleOf : Network → Role → Channel → DeviceId → Type 0
IsRoleOf network role channel device =
    IsSomeAnd (device_at network device) (λ d. (d.role ≡ role) × (d.channel ≡ Some channel))

-- the device is the compression master of the channel, or one of them
abbrev pub IsCmOf : Network → Channel → DeviceId → Type 0
IsCmOf network channel device = IsRoleOf network Cm channel device

-- the device is of the channel: an end system is of both channels, a switch of its own
abbrev pub IsDeviceOf : Network → Channel → DeviceId → Type 0
IsDeviceOf network channel device =
    IsSomeAnd (device_at network device) (λ d. (is_end_system d.role ≡ true) ⊎ (d.channel ≡ Some channel))
