-- Where a device's lane is.
use Rattle.std.specs.{Option.option_map_or, Prelude.{◌*◌, ◌+◌, ◌==◌, ◌&&◌, ◌||◌, Bool, List, None, Option, Some, length, nat_lt, ℕ}}
use Rattle.std.specs.Prelude.{if◌then◌else◌, slice_get, suc, zero}
use Rattle.lens_svg.specs.{Views.{Choice, is_shown}, declared.mark.Ground.{Ground, TheVariants.{Off, Synchronised}}}
use Rattle.net_plan.specs.declared.{ids.DeviceId.DeviceId, tables.{Device.Device, Role.Role}}
use Rattle.net_plan.specs.declared.{network.Network.Network, tables.Role.TheVariants.{Client, Cm, Master, Relay}}
use Rattle.tte_units.specs.declared.{frames.channel.Channel.{Channel, TheVariants.{A, B}}, units.Units.Units}

-- the groups of lanes from the top: channel a's compression master and its relays, the end systems, and channel b's
-- relays and its compression master
abbrev pub rank_in : Option Channel → Role → ℕ
rank_in (Some A) Cm = 0
rank_in (Some A) Relay = 1
rank_in (Some A) Master = 1
rank_in (Some A) Client = 1
rank_in None role = 2
rank_in (Some B) Relay = 3
rank_in (Some B) Master = 3
rank_in (Some B) Client = 3
rank_in (Some B) Cm = 4

-- a device's group
abbrev pub rank_of : Device → ℕ
rank_of device = rank_in device.channel device.role

-- the group of the device at the place
abbrev pub rank_at : List Device → ℕ → ℕ
rank_at devices place = option_map_or rank_of (slice_get devices place) 0

-- the device at the first place is above the one at the second: its group is, or it is the same and comes before it
abbrev pub is_over : List Device → ℕ → ℕ → Bool
is_over devices place other =
    nat_lt (rank_at devices place) (rank_at devices other)
    || rank_at devices place == rank_at devices other && nat_lt place other

-- how many of the first places are so
abbrev pub count_to : (ℕ → Bool) → ℕ → ℕ
count_to is zero = 0
count_to is (suc n) = count_to is n + (if is n then 1 else 0)

-- which lane is the device's, from 0 at the top: behind those of all devices above it that have one
abbrev pub lane_of : Network → Option Choice → DeviceId → ℕ
lane_of network kept device =
    count_to (λ place. is_shown kept place && is_over network.device place device.0) (length network.device)

-- how far down it is
abbrev pub y_of : Network → Option Choice → DeviceId → ℕ
y_of network kept device = 192 + 40 * lane_of network kept device

-- how far down the lanes end
abbrev pub bottom_of : Network → Option Choice → ℕ
bottom_of network kept = 172 + 40 * count_to (is_shown kept) (length network.device)

-- the ground of a device's lane where a run begins: one with a local clock is synchronised, the others are off
abbrev pub start_in : Option Units → Ground
start_in (Some units) = Synchronised
start_in None = Off

abbrev pub start_of : Device → Ground
start_of device = start_in device.start
