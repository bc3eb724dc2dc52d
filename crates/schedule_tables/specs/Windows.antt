-- When a row's frame is on its link, and when it may arrive.
use Rattle.std.specs.Prelude.{◌%◌, ◌*◌, ◌+◌, ◌-ℤ◌, ◌≡◌, ◌≤◌, pos, ℕ}
use Rattle.net_plan.specs.{Bounds.gamma_of, declared.{network.Network.Network, tables.VirtualLink.VirtualLink}}
use Rattle.tte_units.specs.{Amount.{amount, units_of}, OctetTime.octet_time}
use Rattle.schedule_tables.specs.declared.{entry.Entry.Entry, window.Window.Window}

-- the virtual link occurs in the cycle: in one cycle of each period, but not in the silent cycle 0
pub record OccursIn (vl : VirtualLink) (cycle : ℕ) : Type 0 where
  pub begun : 1 ≤ cycle
  pub in_phase : cycle % vl.period ≡ vl.phase

-- how long the frame occupies its port: the octets that the virtual link is configured for, and 24
-- octets of preamble, delimiter, check sequence and gap (IEEE 802.3)
abbrev pub port_time : Entry → ℕ
port_time entry = (entry.vl.length + 24) * octet_time entry.link.speed

-- how far the clocks of two devices may differ, within the precision and over two cycles
abbrev pub tolerance : Network → ℕ
tolerance network = amount network.precision + gamma_of network

-- the place in the sender's cycle at which the frame has arrived, over the least wire delay
abbrev pub arrival_of : Entry → ℕ
arrival_of entry = amount entry.row.offset + port_time entry + amount entry.link.wire

-- the last place in the receiver's cycle at which the frame may arrive
abbrev pub window_end : Network → Entry → ℕ
window_end network entry = arrival_of entry + amount entry.link.jitter + tolerance network

-- the places in the receiver's cycle at which the frame may arrive
abbrev pub window_of : Network → Entry → Window
window_of network entry = record {
  from = record { 0 = pos (arrival_of entry) -ℤ pos (tolerance network) };
  to = units_of (window_end network entry);
}
