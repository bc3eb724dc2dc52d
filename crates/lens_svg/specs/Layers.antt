-- The layers of a picture below its marks.
use Rattle.std.specs.Prelude.{ℕ, ◌+◌, ◌==◌, ◌&&◌, Bool, true, false, nat_lt, if◌then◌else◌, Option, Some, None, length, slice_get}
use Rattle.std.specs.Prelude.{option_and_then, option_map}
use Rattle.lens_svg.specs.{Lanes.{bottom_of, y_of}, Sketching.mark_at, declared.element.Band.TheVariants.{Ground, Wait}}
use Rattle.lens_svg.specs.{Layout.{right_of, width_of}, declared.mark.Look.{Look, TheVariants.{Gone, Turned, Waited}}}
use Rattle.lens_svg.specs.{Plan.Plan, Views.is_shown, declared.layer.MarkLayer.{MarkLayer, TheVariants.{Ticks, Turns, Waits, Ways}}}
use Rattle.lens_svg.specs.declared.element.{Element.{Element, TheVariants.{Bar, Lack, Opening, Rail, Tick, Way}}, PicturePoint.PicturePoint}
use Rattle.lens_svg.specs.declared.{layer.LaneLayer.{LaneLayer, TheVariants.{Grounds, Rails}}, mark.Mark.Mark}
use Rattle.net_plan.specs.declared.{ids.DeviceId.DeviceId, network.Network.Network}

-- the beginning of the picture, which is 70 pixels higher than the lanes end
abbrev pub opening_of : Network → Plan → Element
opening_of network plan = Opening (width_of plan.pen) (bottom_of network plan.view.kept + 70)

-- that no record is drawn
abbrev pub lack_of : Plan → Option Element
lack_of plan = if length plan.marks == 0 then Some Lack else None

-- the device at this place
abbrev pub device_of : ℕ → DeviceId
device_of place = record { 0 = place }

-- how far down the lane of the device at this place is
abbrev pub height_at : Network → Plan → ℕ → ℕ
height_at network plan place = y_of network plan.view.kept (device_of place)

-- its lane's ground where the picture begins, or its name and its lane
abbrev pub of_lane : LaneLayer → Network → Plan → ℕ → Option Element
of_lane Grounds network plan place =
    let start : PicturePoint = record { x = 140; y = height_at network plan place } in
    option_map (λ shade. Bar (Ground shade) start (right_of plan.pen)) (slice_get plan.grounds place)
of_lane Rails network plan place = Some (Rail (device_of place) (height_at network plan place) (right_of plan.pen))

-- what is drawn of the device at this place: nothing where it has no lane
abbrev pub on_lane : LaneLayer → Network → Plan → ℕ → Option Element
on_lane layer network plan place =
    if is_shown plan.view.kept place then of_lane layer network plan place else None

-- where a mark is
abbrev pub point_of : Mark → PicturePoint
point_of mark = record { x = mark.x; y = mark.y }

-- the lane's ground from the mark on, where the record changes it
abbrev pub turn_to : Look → Plan → Mark → Option Element
turn_to (Turned shade) plan mark = Some (Bar (Ground shade) (point_of mark) (right_of plan.pen))
turn_to look plan mark = None

abbrev pub turn_of : Plan → Mark → Option Element
turn_of plan mark = turn_to mark.look plan mark

-- the instant, with its first mark
abbrev pub tick_of : Network → Plan → Mark → Option Element
tick_of network plan mark =
    if mark.first then Some (Tick (record { x = mark.x; y = bottom_of network plan.view.kept }) mark.time) else None

-- a frame may have waited at its device that is permanent or dropped there
abbrev pub may_wait : Look → Bool
may_wait Waited = true
may_wait Gone = true
may_wait look = false

-- the wait of a frame from one mark to a later one at the same device
abbrev pub wait_between : Mark → Mark → Option Element
wait_between cause mark =
    if cause.device.0 == mark.device.0 && nat_lt cause.time mark.time then
    Some (Bar (Wait mark.hue) (point_of cause) mark.x)
    else None

-- how long the frame waited that is permanent with the mark, or dropped
abbrev pub wait_of : Plan → Mark → Option Element
wait_of plan mark =
    if may_wait mark.look then option_and_then (λ cause. wait_between cause mark) (mark_at plan mark.cause)
    else None

-- the frame ends with the mark
abbrev pub is_gone : Look → Bool
is_gone Gone = true
is_gone look = false

-- the way to a mark from that of the record that it comes from, where they are at two devices
abbrev pub way_between : Mark → Mark → Option Element
way_between cause mark =
    if cause.device.0 == mark.device.0 then None
    else Some (Way mark.hue (is_gone mark.look) (point_of cause) (point_of mark))

abbrev pub way_of : Plan → Mark → Option Element
way_of plan mark = option_and_then (λ cause. way_between cause mark) (mark_at plan mark.cause)

-- what is drawn of the record of a mark
abbrev pub on_mark : MarkLayer → Network → Plan → Mark → Option Element
on_mark Turns network plan mark = turn_of plan mark
on_mark Ticks network plan mark = tick_of network plan mark
on_mark Waits network plan mark = wait_of plan mark
on_mark Ways network plan mark = way_of plan mark
