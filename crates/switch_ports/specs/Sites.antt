-- What the network says of a switch.
use Rattle.std.specs.Prelude.{if◌then◌else◌, ◌+◌, ◌==◌, ◌^◌, ◌≡◌, Bool, List, None, Option, Some, false, map, not}
use Rattle.std.specs.Prelude.{slice_get, true, unwrap_or, ℕ}
use Rattle.net_plan.specs.Places.{is_master}
use Rattle.{net_plan.specs.declared.ids.DeviceId.DeviceId, switch_ports.specs.declared.site.{Peer.Peer, Port.Port}}
use Rattle.{net_plan.specs.declared.{ids.LinkId.LinkId, tables.Link.Link}, switch_ports.specs.declared.site.Site.Site}
use Rattle.{net_plan.specs.declared.network.Network.Network, tte_units.specs.declared.frames.members.Members.Members}
use Rattle.{net_plan.specs.declared.tables.Role.Role, schedule_tables.specs.Margins.{compression_time, expected_offset}}
use Rattle.{run_law.specs.{records.Frames.integration_frame, scenario.Devices.plan_of}, tte_units.specs.Amount.{amount, units_of}}
use Rattle.run_law.specs.scenario.Devices.{channel_of, has_role, is_cm, is_cm_role, is_end, is_relay, member_of}
use Rattle.switch_ports.specs.declared.site.Peer.TheVariants as peers

-- does the link lead down?
abbrev pub is_below : Peer → Bool
is_below peers.Parent = false
is_below other = true

-- are these members other than those that the peer sends?
abbrev pub is_other_member : Peer → Members → Bool
is_other_member peers.Parent members = false
is_other_member peers.Switch members = false
is_other_member (peers.Master own) members = not (members.0 == own.0)
is_other_member peers.Client members = true

-- the end system below with this member number, or with none
abbrev pub end_below : Option ℕ → Peer
end_below None = peers.Client
end_below (Some member) = peers.Master (record { 0 = 2 ^ member })

-- the device below
abbrev pub peer_below : Network → DeviceId → Peer
peer_below network child = if is_end network child then end_below (member_of network child) else peers.Switch

-- what stands at the other end of the link
abbrev pub peer_of : Network → DeviceId → Link → Peer
peer_of network device link = if link.parent.0 == device.0 then peer_below network link.child else peers.Parent

-- what the network says of a link
abbrev pub port_of : Network → DeviceId → Link → Port
port_of network device link = record {
  peer = peer_of network device link;
  wire = link.wire;
  channel = channel_of network link.parent;
}

-- what it says of a link that is not there
abbrev pub no_port : Port
no_port = record { peer = peers.Parent; wire = units_of 0; channel = None }

-- the port of a link
abbrev pub port_in : List Port → LinkId → Port
port_in ports link = unwrap_or (slice_get ports link.0) no_port

-- when a switch of this role expects a compressed frame, from the beginning of its cycle
abbrev pub expected_in : Network → Role → ℕ
expected_in network role =
    if is_cm_role role then amount network.dmax + compression_time network else expected_offset network

-- the site is what the network says of the device, which is a switch
pub record IsSiteOf (network : Network) (device : DeviceId) (site : Site) : Type 0 where
  pub relay : site.is_relay ≡ is_relay network device
  pub cm : is_cm network device ≡ not site.is_relay
  pub not_end : is_end network device ≡ false
  pub not_master : has_role network is_master device ≡ false
  pub channel : channel_of network device ≡ Some site.channel
  pub frame : site.frame ≡ integration_frame network device 0 (record { 0 = 0 })
  pub plan : site.plan ≡ plan_of network device
  pub dmax : site.dmax ≡ network.dmax
  pub precision : site.precision ≡ network.precision
  pub correction : site.correction ≡ network.correction
  pub calc : site.calc ≡ network.calc
  pub marker : site.marker ≡ network.marker
  pub ports : site.ports.items ≡ map (port_of network device) network.link
