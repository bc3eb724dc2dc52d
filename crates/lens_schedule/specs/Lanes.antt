-- The ports that have rows, each with its lane.
use Rattle.std.specs.{List.{count_by, list_any, sum_by}, Option.option_map_or}
use Rattle.std.specs.Prelude.{◌%◌, ◌&&◌, ◌*◌, ◌++◌, ◌+◌, ◌/◌, ◌==◌, ◌∷◌, Bool, List, None, Option, Some, []}
use Rattle.std.specs.Prelude.{if◌then◌else◌, length, nat_lt, suc, zero, ℕ}
use Rattle.lens_schedule.specs.declared.lanes.Lane.{Lane}
use Rattle.net_plan.specs.{Places.{device_at, link_at}, declared.ids.{DeviceId.DeviceId, LinkId.LinkId}}
use Rattle.net_plan.specs.declared.{network.Network.Network, tables.Way.{TheVariants.{Down, Up}, Way}}
use Rattle.schedule_tables.specs.{Windows.port_time, declared.entry.Entry.Entry}
use Rattle.tte_units.specs.{Amount.amount, declared.frames.channel.Channel.{Channel, TheVariants.{A, B}}}

-- the number of a port in the order of the lanes: by its link, the way up first
abbrev pub port_number : LinkId → Way → ℕ
port_number link Up = 2 * link.0
port_number link Down = 2 * link.0 + 1

-- the link and the way of the port of this number
abbrev pub link_of : ℕ → LinkId
link_of port = record { 0 = port / 2 }

abbrev pub way_of : ℕ → Way
way_of port = if port % 2 == 0 then Up else Down

-- channel a stands on the left, channel b on the right
abbrev pub column_of : Channel → ℕ
column_of A = 0
column_of B = 950

abbrev pub column_in : Option Channel → ℕ
column_in (Some channel) = column_of channel
column_in None = 0

-- a link's channel is that of its parent
abbrev pub column_at : Network → DeviceId → ℕ
column_at network device = option_map_or (λ d. column_in d.channel) (device_at network device) 0

abbrev pub column_by : Network → LinkId → ℕ
column_by network link = option_map_or (λ l. column_at network l.parent) (link_at network link) 0

-- the row leaves by the port
abbrev pub leaves_by : ℕ → Entry → Bool
leaves_by port entry = port_number entry.row.link entry.row.way == port

-- how long the row's frames occupy the port in 64 cycles, which are some of its periods
abbrev pub busy_by : ℕ → Entry → ℕ
busy_by port entry = if leaves_by port entry then port_time entry * (64 / entry.vl.period) else 0

-- how long frames occupy the port in 64 cycles
abbrev pub busy_time : ℕ → List Entry → ℕ
busy_time port entries = sum_by (busy_by port) entries

-- which part of 64 cycles this is, in hundredths of a percent, rounded to the nearest
abbrev pub load_of : Network → ℕ → ℕ
load_of network busy = (20000 * busy + 64 * amount network.cycle) / (2 * (64 * amount network.cycle))

-- the port of this number
abbrev pub lane_of : Network → List Entry → ℕ → Lane
lane_of network entries port = record {
  link = link_of port;
  way = way_of port;
  column = column_by network (link_of port);
  load = load_of network (busy_time port entries);
}

-- it has a lane where a row leaves by it
abbrev pub lane_at : Network → List Entry → ℕ → List Lane
lane_at network entries port = if list_any (leaves_by port) entries then lane_of network entries port ∷ [] else []

-- those of the ports below this number
abbrev pub lanes_below : Network → List Entry → ℕ → List Lane
lanes_below network entries zero = []
lanes_below network entries (suc n) = lanes_below network entries n ++ lane_at network entries n

-- all of them
abbrev pub lanes_of : Network → List Entry → List Lane
lanes_of network entries = lanes_below network entries (2 * length network.link)

-- how many lanes of the column are before the port of this number
abbrev pub lanes_before : List Lane → ℕ → ℕ → ℕ
lanes_before lanes column port =
    count_by (λ lane. lane.column == column && nat_lt (port_number lane.link lane.way) port) lanes
