-- The frame of a row in the lane of its port.
use Rattle.std.specs.Prelude.{◌%◌, ◌*◌, ◌+◌, ◌-◌, ◌/◌, max, min, ℕ}
use Rattle.lens_schedule.specs.{Scale.x_of, declared.{frames.{Frame.Frame, Stroke.Stroke}, scale.Scale.Scale}}
use Rattle.{lens_svg.specs.declared.element.PicturePoint.PicturePoint, net_plan.specs.declared.network.Network.Network}
use Rattle.schedule_tables.specs.{Windows.{arrival_of, port_time, tolerance, window_end}, declared.entry.Entry.Entry}
use Rattle.tte_units.specs.Amount.{amount}

-- how far down in its lane it stands: the lane has a place for each of 8 cycles, and a frame takes those of the
-- cycles in which it comes, so the phase's lowest digit counts most
abbrev pub seat_of : ℕ → ℕ
seat_of phase = 2 + 8 * (phase % 2) + 4 * (phase / 2 % 2) + 2 * (phase / 4 % 2)

-- how high it is
abbrev pub height_of : ℕ → ℕ
height_of period = 16 / max (min period 8) 1

-- the first place in the receiver's cycle at which it may arrive
abbrev pub window_begin : Network → Entry → ℕ
window_begin network entry = arrival_of entry - tolerance network

-- from one place in the cycle to another
abbrev pub stroke_of : Scale → ℕ → ℕ → Stroke
stroke_of scale from to = record { from = x_of scale from; to = x_of scale to }

-- its box is as long as it occupies its port, its window as long as that of the receiver
abbrev pub frame_of : Network → Scale → PicturePoint → Entry → Frame
frame_of network scale at entry = record {
  vl = entry.row.vl;
  link = entry.row.link;
  way = entry.row.way;
  offset = amount entry.row.offset;
  phase = entry.vl.phase;
  period = entry.vl.period;
  from = window_begin network entry;
  to = window_end network entry;
  port = stroke_of scale (amount entry.row.offset) (amount entry.row.offset + port_time entry);
  window = stroke_of scale (window_begin network entry) (window_end network entry);
  at = at;
}
