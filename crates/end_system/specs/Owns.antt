-- What an end system knows of its network.
use Rattle.std.specs.Prelude.{if◌then◌else◌, ◌*ℤ◌, ◌*◌, ◌+ℤ◌, ◌+◌, ◌<ℤ◌, ◌==◌, ◌^◌, ◌≡◌, ◌≤◌, IsSomeAnd, Some, false}
use Rattle.std.specs.Prelude.{pos, true, ℕ}
use Rattle.net_plan.specs.{Paths.IsUplink, Places.{is_master, link_at}, Ranges.{IsInRange, IsWithin}, Rules.IsChildOf}
use Rattle.net_plan.specs.declared.{ids.{DeviceId.DeviceId, LinkId.LinkId, RowId.RowId}, network.Network.Network}
use Rattle.tte_units.specs.declared.frames.channel.Channel.{Channel, TheVariants.{A, B}}
use Rattle.run_law.specs.{machines.{Calls.{HasLink, IsLinkAt}, Tasks.offset_of}, records.Frames.dispatched_frame}
use Rattle.run_law.specs.scenario.Devices.{channel_of_link, has_role, is_cm, is_end, is_parent_of, is_relay, plan_of}
use Rattle.run_law.specs.scenario.Ways.{wire_of}
use Rattle.schedule_tables.specs.{Margins.expected_offset, Schedule.HasPeriod}
use Rattle.sync_state.specs.declared.plan.SyncPlan.{SyncPlan}
use Rattle.tte_units.specs.{Amount.{amount, units_of}, declared.units.Units.Units}
use Rattle.end_system.specs.{Deeds.Leaves, declared.own.{Own.Own, Uplink.Uplink}}

-- what the network says of the synchronisation of an end system
abbrev pub end_plan : Network → SyncPlan
end_plan network = record {
  cycle_length = network.cycle;
  expected = units_of (expected_offset network);
  threshold = network.sync_threshold;
}

-- the channel of one of the two links
abbrev pub channel_by : Own → LinkId → Channel
channel_by own link = if link.0 == own.a.link.0 then A else B

-- the least wire delay of one of the two links
abbrev pub wire_by : Own → LinkId → Units
wire_by own link = if link.0 == own.a.link.0 then own.a.wire else own.b.wire

-- the link is the device's link to a switch of the channel, and this is its wire delay
pub record IsUplinkOf (network : Network) (channel : Channel) (device : DeviceId) (is : Uplink) : Type 0 where
  pub leads : IsUplink network channel device is.link
  pub wire : IsSomeAnd (link_at network is.link) (λ l. l.wire ≡ is.wire)
  pub range : IsWithin 1 (2 ^ 40) is.wire

-- the numbers lie in their ranges, and the correction leaves room for three precisions
pub record HasOwnRange (own : Own) : Type 0 where
  pub cycle : IsWithin (2 ^ 32) (2 ^ 40) own.plan.cycle_length
  pub expected : IsWithin 0 (2 ^ 43) own.plan.expected
  pub precision : IsWithin 1 (2 ^ 40) own.precision
  pub correction : IsWithin 0 (2 ^ 40) own.correction
  pub dmax : IsWithin 1 (2 ^ 40) own.dmax
  pub wire_a : IsWithin 1 (2 ^ 40) own.a.wire
  pub wire_b : IsWithin 1 (2 ^ 40) own.b.wire
  pub margin : (own.plan.expected.0 +ℤ (pos 3 *ℤ own.precision.0)) <ℤ (own.plan.cycle_length.0 +ℤ own.correction.0)

-- the link leads up from the device, and its channel and its wire delay are known
pub record IsLinkOf (network : Network) (device : DeviceId) (own : Own) (link : LinkId) : Type 0 where
  pub child : IsChildOf network device link
  pub up : is_parent_of network device link ≡ false
  pub channel : channel_of_link network link ≡ Some (channel_by own link)
  pub wire : wire_of network link ≡ amount (wire_by own link)

-- the device is an end system, and this is what it knows of the network
pub record IsOwnOf (network : Network) (device : DeviceId) (own : Own) : Type 0 where
  pub in_range : IsInRange network
  pub end : is_end network device ≡ true
  pub no_cm : is_cm network device ≡ false
  pub no_relay : is_relay network device ≡ false
  pub plan_is : plan_of network device ≡ end_plan network
  pub plan : own.plan ≡ end_plan network
  pub precision : own.precision ≡ network.precision
  pub correction : own.correction ≡ network.correction
  pub dmax : own.dmax ≡ network.dmax
  pub marker : own.marker ≡ network.marker
  pub frame : own.frame ≡ dispatched_frame network device 0
  pub master : own.is_master ≡ has_role network is_master device
  pub linked : HasLink network device
  pub links : (link : LinkId) → IsLinkAt network device link → IsLinkOf network device own link
  pub range : HasOwnRange own
  pub periods : (vl : ℕ) → HasPeriod network vl
  pub early : (row : RowId) (cycle : ℕ) → Leaves network device row cycle
      → offset_of network row + 4 * amount network.precision ≤ amount network.cycle
