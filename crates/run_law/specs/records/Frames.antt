-- The frames that correct devices make.
use Rattle.std.specs.{Option.option_map_or, Prelude.{◌++◌, ◌^◌, List, [], slice_get, unwrap_or, ℕ}}
use Rattle.{byteorder.specs.Endian.big_bytes, net_plan.specs.Padding.padded}
use Rattle.{net_plan.specs.{Places.device_at, declared.ids.VlId.VlId}, run_law.specs.scenario.Devices.member_of}
use Rattle.net_plan.specs.declared.{ids.DeviceId.DeviceId, network.Network.Network, tables.VirtualLink.VirtualLink}
use Rattle.tte_units.specs.declared.frames.{members.Members.Members, pcf.{Pcf.Pcf, PcfKind.TheVariants.Integration}}

-- the address of the device
abbrev pub mac_of : Network → DeviceId → ℕ
mac_of network device = option_map_or (λ d. d.mac) (device_at network device) 0

-- the integration frame of a device for a cycle and these members, with no delay so far
abbrev pub integration_frame : Network → DeviceId → ℕ → Members → Pcf
integration_frame network device cycle members = record {
  destination = network.pcf_destination;
  source = mac_of network device;
  cycle = cycle;
  members = members;
  priority = network.priority;
  domain = network.domain;
  kind = Integration;
  clock = 0;
}

-- the frame that a master sends in a cycle: its own bit is its members
abbrev pub dispatched_frame : Network → DeviceId → ℕ → Pcf
dispatched_frame network master cycle =
    integration_frame network master cycle (record { 0 = 2 ^ unwrap_or (member_of network master) 0 })

-- the time-triggered frame of the virtual link in a cycle: the marker, the link's id, its sender's address,
-- its EtherType, the cycle, and zeros up to its length
abbrev pub tt_frame_by : Network → VirtualLink → ℕ → List ℕ
tt_frame_by network vl cycle =
    padded vl.length
    (big_bytes 4 network.marker
    ++ (big_bytes 2 vl.id
    ++ (big_bytes 6 (mac_of network vl.sender) ++ (big_bytes 2 vl.ethertype ++ big_bytes 4 cycle))))

-- the same, of the virtual link of this id
abbrev pub tt_frame : Network → VlId → ℕ → List ℕ
tt_frame network vl cycle = option_map_or (λ v. tt_frame_by network v cycle) (slice_get network.vl vl.0) []
