-- The line of each part.
use Rattle.std.specs.Option.{option_map_or}
use Rattle.std.specs.Prelude.{◌%◌, ◌++◌, ◌/◌, List, None, Option, Some, [], codes, decimal, ℕ}
use Rattle.lens_schedule.specs.Frames.{height_of, seat_of}
use Rattle.lens_schedule.specs.declared.{frames.{Frame.Frame, Stroke.Stroke}, lanes.Lane.Lane}
use Rattle.lens_schedule.specs.declared.{part.SchedulePart.SchedulePart, tree.Twig.Twig, zones.{CycleStretch.CycleStretch, Zone.Zone}}
use Rattle.lens_schedule.specs.declared.part.SchedulePart.TheVariants.{Bare, Caption, Close, Head, Heading, Opening}
use Rattle.lens_schedule.specs.declared.zones.CycleStretch.TheVariants.{Control, Late, Rest, Schedule}
use Rattle.lens_svg.specs.{Elements.{opening_line, role_word}, Numbers.micros_text, Titles.{heading_line, title_line}, declared.element.PicturePoint.PicturePoint}
use Rattle.net_plan.specs.{Belonging.{device_name, link_name, vl_name}, Places.device_at}
use Rattle.net_plan.specs.declared.{ids.{DeviceId.DeviceId, LinkId.LinkId, VlId.VlId}, network.Network.Network}
use Rattle.trace_text.specs.EventWords.{way_text}
use Rattle.tte_units.specs.Amount.{amount}
use Rattle.lens_schedule.specs.declared.part.SchedulePart.TheVariants as parts

-- the colours, the background and the names of the channels
abbrev pub head_line : List ℕ
head_line =
    codes "<style type=\"text/css\">text{font-family:sans-serif;font-size:9px;fill:#374151;stroke:none}"
    ++ codes ".top{font-size:15px;font-weight:bold}.note{font-size:11px;fill:#6b7280}.name{font-size:11px}"
    ++ codes ".master{font-weight:bold}.role{font-weight:normal;font-size:9px;fill:#6b7280}"
    ++ codes ".port,.end{text-anchor:end}.port{font-weight:bold}.load{text-anchor:end;fill:#6b7280}"
    ++ codes ".twig,.rail{fill:none;stroke:#c9ced6}.control{fill:#dbe7f8}.late{fill:#ececf1}"
    ++ codes ".schedule{fill:#ffffff}.rest{fill:#e3e6ea}"
    ++ codes ".window{fill-opacity:.06;stroke-width:.7;stroke-dasharray:3 2}.box{stroke-width:.5}"
    ++ codes ".v0{fill:#1f77b4;stroke:#1f77b4}.v1{fill:#d97706;stroke:#d97706}"
    ++ codes ".v2{fill:#2ca02c;stroke:#2ca02c}.v3{fill:#9467bd;stroke:#9467bd}"
    ++ codes ".v4{fill:#c2185b;stroke:#c2185b}.v5{fill:#0e9aa7;stroke:#0e9aa7}"
    ++ codes ".v6{fill:#8c564b;stroke:#8c564b}.v7{fill:#6b7a10;stroke:#6b7a10}</style>"
    ++ codes "<rect width=\"100%\" height=\"100%\" fill=\"#f6f7f9\"/>"
    ++ codes "<text class=\"name\" x=\"12\" y=\"66\">channel a</text>"
    ++ codes "<text class=\"name\" x=\"962\" y=\"66\">channel b</text>\n"

-- where a group of signs is
unfoldable pub place_text : PicturePoint → List ℕ
place_text point =
    codes " transform=\"translate(" ++ decimal point.x ++ codes " " ++ decimal point.y ++ codes ")\""

-- a time of the network behind its name
unfoldable pub time_text : List ℕ → ℕ → List ℕ
time_text name time = name ++ micros_text time ++ codes " us"

-- the numbers of the network, and how the picture is to be read
unfoldable pub caption_line : Network → ℕ → List ℕ
caption_line network rows =
    codes "<text class=\"note\" x=\"12\" y=\"42\">rows " ++ decimal rows
    ++ time_text (codes ", cycle ") (amount network.cycle)
    ++ time_text (codes ", precision ") (amount network.precision)
    ++ codes ". A full box is a frame on its port, a dashed one its window at the receiver."
    ++ codes " What comes in each cycle is as high as its lane. Stretches without windows are folded.</text>\n"

-- the word of the device's role
abbrev pub role_of : Network → DeviceId → List ℕ
role_of network device = option_map_or (λ d. role_word d.role) (device_at network device) []

-- the link to the parent
abbrev pub link_text : Network → Option LinkId → List ℕ
link_text network None = []
link_text network (Some link) = codes " by " ++ link_name network link

-- the line from the parent
unfoldable pub branch_text : PicturePoint → ℕ → List ℕ
branch_text at above =
    codes "<path class=\"twig\" d=\"M" ++ decimal at.x ++ codes " " ++ decimal above ++ codes " m0 5 V"
    ++ decimal at.y ++ codes " h9\"/>"

-- a device beside it
unfoldable pub device_text : Network → DeviceId → PicturePoint → List ℕ
device_text network device at =
    codes "<text class=\"name " ++ role_of network device ++ codes "\" x=\"12\" y=\"3\"" ++ place_text at ++ codes ">"
    ++ device_name network device

-- its role and its link
unfoldable pub origin_text : Network → DeviceId → Option LinkId → List ℕ
origin_text network device link =
    codes "<tspan class=\"role\" dx=\"4\">" ++ role_of network device ++ link_text network link
    ++ codes "</tspan></text>\n"

-- a device in the tree of its channel
unfoldable pub twig_line : Network → Twig → PicturePoint → ℕ → List ℕ
twig_line network twig at above =
    branch_text at above ++ device_text network twig.device at ++ origin_text network twig.device twig.link

-- the beginning of a group in the colour of the virtual link
unfoldable pub group_text : VlId → PicturePoint → List ℕ
group_text vl at = codes "<g class=\"v" ++ decimal (vl.0 % 8) ++ codes "\"" ++ place_text at ++ codes ">"

-- in which cycles frames come
unfoldable pub phase_text : ℕ → ℕ → List ℕ
phase_text phase period = codes ", cycle " ++ decimal phase ++ codes " of " ++ decimal period

-- that there are no rows
unfoldable pub bare_line : ℕ → List ℕ
bare_line y = codes "<text class=\"note\" x=\"12\" y=\"" ++ decimal y ++ codes "\">The schedule has no rows.</text>\n"

-- what a stretch is drawn as, what comes in it, and what is where it ends
abbrev pub stretch_word : CycleStretch → List ℕ
stretch_word Control = codes "control"
stretch_word Late = codes "late"
stretch_word Schedule = codes "schedule"
stretch_word Rest = codes "rest"

abbrev pub stretch_text : CycleStretch → List ℕ
stretch_text Control = codes "control frames"
stretch_text Late = codes "late frames"
stretch_text Schedule = codes "schedule"
stretch_text Rest = codes ""

abbrev pub end_text : CycleStretch → List ℕ
end_text Control = codes "clocks are set"
end_text Late = codes "schedule begins"
end_text Schedule = codes "last window ends"
end_text Rest = codes "cycle ends"

-- the upper left corner and the right side of a stretch, and the others
unfoldable pub ground_begin : CycleStretch → PicturePoint → ℕ → List ℕ
ground_begin stretch from right =
    codes "<path class=\"" ++ stretch_word stretch ++ codes "\" d=\"M" ++ decimal from.x ++ codes " " ++ decimal from.y
    ++ codes " H" ++ decimal right

unfoldable pub ground_rest : ℕ → ℕ → List ℕ
ground_rest bottom left = codes " V" ++ decimal bottom ++ codes " H" ++ decimal left ++ codes " z\"/>"

-- what comes in it
unfoldable pub zone_begin : CycleStretch → PicturePoint → List ℕ
zone_begin stretch at =
    codes "<text x=\"2\" y=\"-4\"" ++ place_text at ++ codes ">" ++ stretch_text stretch ++ codes "</text>"

-- when it ends, and what is there
unfoldable pub zone_end : CycleStretch → PicturePoint → ℕ → List ℕ
zone_end stretch at time =
    codes "<text class=\"end\"" ++ place_text at ++ codes "><tspan x=\"0\" y=\"14\">" ++ micros_text time
    ++ codes " us</tspan><tspan x=\"0\" y=\"26\">" ++ end_text stretch ++ codes "</tspan></text>\n"

-- a stretch of the cycle
unfoldable pub zone_line : Zone → List ℕ
zone_line zone =
    ground_begin zone.stretch zone.from zone.to.x ++ ground_rest zone.to.y zone.from.x
    ++ zone_begin zone.stretch zone.from ++ zone_end zone.stretch zone.to zone.time

-- hundredths of a percent
unfoldable pub percent_text : ℕ → List ℕ
percent_text load =
    decimal (load / 100) ++ codes "." ++ decimal (load / 10 % 10) ++ decimal (load % 10) ++ codes " %"

-- where a lane begins, with its line
unfoldable pub rail_text : PicturePoint → List ℕ
rail_text at = codes "<g" ++ place_text at ++ codes "><path class=\"rail\" d=\"M160 19.5 H930\"/>"

-- a port with its lane
unfoldable pub lane_line : Network → Lane → PicturePoint → List ℕ
lane_line network lane at =
    rail_text at ++ codes "<text class=\"port\" x=\"114\" y=\"13\">" ++ link_name network lane.link ++ codes " "
    ++ way_text lane.way ++ codes "</text><text class=\"load\" x=\"156\" y=\"13\">" ++ percent_text lane.load
    ++ codes "</text></g>\n"

-- the left and right side of a box, its upper side and how high it is
unfoldable pub box_text : Stroke → ℕ → ℕ → List ℕ
box_text stroke seat height =
    codes "\" d=\"M" ++ decimal stroke.from ++ codes " " ++ decimal seat ++ codes " H" ++ decimal stroke.to
    ++ (codes " v" ++ decimal height ++ codes " H" ++ decimal stroke.from ++ codes " z\"/>")

-- the row in words
unfoldable pub row_text : Network → Frame → List ℕ
row_text network frame =
    codes "<title>" ++ vl_name network frame.vl ++ codes " " ++ link_name network frame.link ++ codes " "
    ++ way_text frame.way

unfoldable pub times_text : Frame → List ℕ
times_text frame =
    time_text (codes ", offset ") frame.offset ++ time_text (codes ", window ") frame.from
    ++ time_text (codes " to ") frame.to ++ phase_text frame.phase frame.period ++ codes "</title>"

-- the window and the box
unfoldable pub boxes_text : Frame → List ℕ
boxes_text frame =
    codes "<path class=\"window" ++ box_text frame.window (seat_of frame.phase) (height_of frame.period)
    ++ codes "<path class=\"box" ++ box_text frame.port (seat_of frame.phase) (height_of frame.period)
    ++ codes "</g>\n"

-- a row's frame in the lane of its port
unfoldable pub frame_line : Network → Frame → List ℕ
frame_line network frame =
    group_text frame.vl frame.at ++ row_text network frame ++ times_text frame ++ boxes_text frame

-- the line of a part
abbrev pub part_line : Network → List ℕ → SchedulePart → List ℕ
part_line network title (Opening width height) = opening_line width height
part_line network title parts.Title = title_line title
part_line network title Heading = heading_line title
part_line network title Head = head_line
part_line network title (Caption rows) = caption_line network rows
part_line network title (parts.Twig twig at above) = twig_line network twig at above
part_line network title (Bare y) = bare_line y
part_line network title (parts.Zone zone) = zone_line zone
part_line network title (parts.Lane lane at) = lane_line network lane at
part_line network title (parts.Frame frame) = frame_line network frame
part_line network title Close = codes "</svg>\n"
