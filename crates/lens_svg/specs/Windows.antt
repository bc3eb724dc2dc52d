-- The windows of the schedule, and where in them frames come.
use Rattle.std.specs.Prelude.{◌-ℤ◌, List, None, Option, Some, filter_map, if◌then◌else◌, int_lt}
use Rattle.std.specs.Prelude.{option_and_then, option_map, slice_get, unsigned_abs, ℕ, ℤ}
use Rattle.lens_svg.specs.declared.{element.Element.TheVariants.{Window as Box}, mark.Look.TheVariants.Taken}
use Rattle.lens_svg.specs.declared.{element.Element.Element, mark.{Look.Look, Mark.Mark}, window.Came.Came}
use Rattle.lens_svg.specs.{Clocks.share, Layers.point_of}
use Rattle.net_plan.specs.{Places.row_of, declared.{ids.{DeviceId.DeviceId, LinkId.LinkId, VlId.VlId}, network.Network.Network}}
use Rattle.run_law.specs.{device.Standpoints.offset_in_cycle, timed.Arrivals.entry_of}
use Rattle.schedule_tables.specs.{Windows.window_of, declared.window.Window.Window}

-- the window of the row at the place
abbrev pub window_at : Network → ℕ → Option Window
window_at network place =
    option_map (window_of network) (option_and_then (entry_of network) (slice_get network.row place))

-- where in its cycle a device takes the virtual link's frame from the link
abbrev pub window_by : Network → VlId → LinkId → Option Window
window_by network vl link = option_and_then (window_at network) (row_of network vl link)

-- how far from the left of a box of 24 pixels the tick stands that shows a place of the window: its left end is where
-- the window begins, and its right end where it ends
abbrev pub tick_in : Window → ℤ → ℕ
tick_in window at =
    if int_lt at window.from.0 then 0
    else share 24 (unsigned_abs (at -ℤ window.from.0)) (unsigned_abs (window.to.0 -ℤ window.from.0))

-- what is drawn of a frame that came
abbrev pub box_of : Came → Option Element
box_of came = Some (Box came.place came.tick)

-- the frame of the mark comes when its device's local clock shows this
abbrev pub came_at : Network → Mark → ℤ → Window → Came
came_at network mark clock window =
    record { place = point_of mark; tick = tick_in window (offset_in_cycle network clock) }

-- so it is drawn of a mark that shows so much
abbrev pub came_by : Network → Mark → ℤ → Look → Option Came
came_by network mark clock (Taken link vl) = option_map (came_at network mark clock) (window_by network vl link)
came_by network mark clock look = None

abbrev pub came_of : Network → Mark → ℤ → Option Came
came_of network mark clock = came_by network mark clock mark.look

-- of these marks, where the local clocks show this when something comes to a device at a time
abbrev pub windows_in : Network → (DeviceId → ℕ → ℤ) → List Mark → List Came
windows_in network clock marks = filter_map (λ mark. came_of network mark (clock mark.device mark.time)) marks
