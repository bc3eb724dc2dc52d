use Rattle.std.specs.{List.All, Prelude.{◌<◌, ◌^◌, ◌≡◌, ◌≢◌, ◌≤ℤ◌, ◌≤◌, ◌⊎◌, IfSome, is_some, length, not, pos, ℕ}}
use Rattle.tte_units.specs.declared.units.Units.{Units}
use Rattle.net_plan.specs.{NameText.IsNameText, Places.{is_end_system, is_master}, declared.network.Network.Network}
use Rattle.net_plan.specs.declared.tables.{Device.Device, Link.Link, Row.Row, VirtualLink.VirtualLink}

-- from low to high units
pub record IsWithin (low high : ℕ) (units : Units) : Type 0 where
  pub least : pos low ≤ℤ units.0
  pub most : units.0 ≤ℤ pos high

-- the device's name is one, its numbers lie in their ranges, and it has a member number exactly where
-- it is a master, and a channel exactly where it is a switch
pub record IsDeviceInRange (device : Device) : Type 0 where
  pub name : IsNameText device.name
  pub masters : is_some device.member ≡ is_master device.role
  pub member : IfSome device.member (λ m. m ≤ 31)
  pub switches : is_some device.channel ≡ not (is_end_system device.role)
  pub start : IfSome device.start (IsWithin 0 (2 ^ 40))

-- the link's ids are of devices, its name is one, and its numbers lie in their ranges
pub record IsLinkInRange (network : Network) (link : Link) : Type 0 where
  pub name : IsNameText link.name
  pub child : link.child.0 < length network.device
  pub parent : link.parent.0 < length network.device
  pub wire : IsWithin 1 (2 ^ 40) link.wire
  pub jitter : IsWithin 0 (2 ^ 40) link.jitter
  pub hold : IsWithin 0 (2 ^ 40) link.hold

-- the virtual link's sender is a device, its name is one, and its numbers lie in their ranges; 35,101
-- is the EtherType of protocol control frames
pub record IsVlInRange (network : Network) (vl : VirtualLink) : Type 0 where
  pub name : IsNameText vl.name
  pub id : vl.id < 2 ^ 16
  pub length_least : 60 ≤ vl.length
  pub length_most : vl.length ≤ 1514
  pub ethertype_least : 1536 ≤ vl.ethertype
  pub ethertype_most : vl.ethertype < 2 ^ 16
  pub ethertype_other : vl.ethertype ≢ 35101
  pub sender : vl.sender.0 < length network.device
  pub period_least : 1 ≤ vl.period
  pub period_most : vl.period ≤ 64
  pub phase : vl.phase ≤ 63

-- the row's ids are of a virtual link and of a link, and its offset lies in its range
pub record IsRowInRange (network : Network) (row : Row) : Type 0 where
  pub vl : row.vl.0 < length network.vl
  pub link : row.link.0 < length network.link
  pub offset : IsWithin 0 (2 ^ 40) row.offset

-- each number of the network lies in its range, each list is short enough for ids, and each of its
-- entries is in range
pub record IsInRange (network : Network) : Type 0 where
  pub version : (network.version ≡ 1) ⊎ (network.version ≡ 2)
  pub cycle : IsWithin (2 ^ 32) (2 ^ 40) network.cycle
  pub rho : network.rho ≤ 1000000
  pub grain : IsWithin 1 1048576 network.grain
  pub dmax : IsWithin 1 (2 ^ 40) network.dmax
  pub calc : IsWithin 1 (2 ^ 40) network.calc
  pub settled : IsWithin 0 (2 ^ 40) network.settled
  pub precision : IsWithin 1 (2 ^ 40) network.precision
  pub correction : IsWithin 0 (2 ^ 40) network.correction
  pub tt_start : IsWithin 0 (2 ^ 40) network.tt_start
  pub marker : network.marker < 2 ^ 32
  pub threshold_least : 1 ≤ network.sync_threshold
  pub threshold_most : network.sync_threshold ≤ 31
  pub few_devices : length network.device < 2 ^ 32
  pub few_links : length network.link < 2 ^ 32
  pub few_vls : length network.vl < 2 ^ 32
  pub few_rows : length network.row < 2 ^ 32
  pub devices : All IsDeviceInRange network.device
  pub links : All (IsLinkInRange network) network.link
  pub vls : All (IsVlInRange network) network.vl
  pub rows : All (IsRowInRange network) network.row
