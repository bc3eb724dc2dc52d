-- What the network says of its devices.
use Rattle.std.specs.Option.{option_map_or}
use Rattle.std.specs.Prelude.{if◌then◌else◌, ◌+◌, ◌==◌, ◌≡◌, Bool, IsSomeAnd, Option, false, option_and_then, true, ℕ}
use Rattle.net_plan.specs.{Places.{device_at, is_end_system, link_at}, declared.tables.Role.TheVariants.{Cm, Relay}}
use Rattle.net_plan.specs.declared.{ids.{DeviceId.DeviceId, LinkId.LinkId}, network.Network.Network, tables.Role.Role}
use Rattle.schedule_tables.specs.Margins.{compression_time, expected_offset}
use Rattle.{sync_state.specs.declared.plan.SyncPlan.SyncPlan, tte_units.specs.declared.frames.channel.Channel.Channel}
use Rattle.tte_units.specs.{Amount.{amount, units_of}, declared.units.Units.Units}

-- has the device a role of this kind?
abbrev pub has_role : Network → (Role → Bool) → DeviceId → Bool
has_role network kind device = option_map_or (λ d. kind d.role) (device_at network device) false

-- is it the role of compression masters?
abbrev pub is_cm_role : Role → Bool
is_cm_role Cm = true
is_cm_role other = false

-- is it the role of relays?
abbrev pub is_relay_role : Role → Bool
is_relay_role Relay = true
is_relay_role other = false

-- is the device a compression master?
abbrev pub is_cm : Network → DeviceId → Bool
is_cm network device = has_role network is_cm_role device

-- is it a relay?
abbrev pub is_relay : Network → DeviceId → Bool
is_relay network device = has_role network is_relay_role device

-- is it an end system?
abbrev pub is_end : Network → DeviceId → Bool
is_end network device = has_role network is_end_system device

-- the member number of a master
abbrev pub member_of : Network → DeviceId → Option ℕ
member_of network device = option_and_then (λ d. d.member) (device_at network device)

-- where the device's clock begins; it is None for one that begins off
abbrev pub start_of : Network → DeviceId → Option Units
start_of network device = option_and_then (λ d. d.start) (device_at network device)

-- the channel of a switch
abbrev pub channel_of : Network → DeviceId → Option Channel
channel_of network device = option_and_then (λ d. d.channel) (device_at network device)

-- the channel of a link, which is that of its parent
abbrev pub channel_of_link : Network → LinkId → Option Channel
channel_of_link network link = option_and_then (λ l. channel_of network l.parent) (link_at network link)

-- is the device the parent of the link? Otherwise the link leads from it up to its parent
abbrev pub is_parent_of : Network → DeviceId → LinkId → Bool
is_parent_of network device link = option_map_or (λ l. l.parent.0 == device.0) (link_at network link) false

-- the device is the parent of the link
abbrev pub IsParentOf : Network → DeviceId → LinkId → Type 0
IsParentOf network device link = IsSomeAnd (link_at network link) (λ l. l.parent ≡ device)

-- when the device expects a compressed frame, from the beginning of its cycle: a compression master
-- expects its own at once, any other device after a further delay of dmax
abbrev pub expected_by : Network → DeviceId → ℕ
expected_by network device =
    if is_cm network device then amount network.dmax + compression_time network else expected_offset network

-- what the network says of the device's synchronisation
abbrev pub plan_of : Network → DeviceId → SyncPlan
plan_of network device = record {
  cycle_length = network.cycle;
  expected = units_of (expected_by network device);
  threshold = network.sync_threshold;
}
