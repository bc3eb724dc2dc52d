-- The lines of what is drawn besides the marks.
use Rattle.std.specs.{Option.option_map_or, Prelude.{true, ℕ, ⊤}}
use Rattle.std.specs.Prelude.{◌++◌, ◌==◌, Bool, List, None, Option, Some, [], codes, decimal, false, if◌then◌else◌}
use Rattle.lens_svg.specs.{Layout.last_time, Numbers.micros_text, declared.mark.Hue.Hue}
use Rattle.lens_svg.specs.{Marks.{ground_text, hue_text}, declared.{element.{Band.Band, PicturePoint.PicturePoint}, layout.Span.Span}}
use Rattle.lens_svg.specs.declared.element.{Band.TheVariants.{Ground, Wait}, Element.{Element, TheVariants.Window}}
use Rattle.lens_svg.specs.declared.element.Element.TheVariants.{Bar, Caption, Gauge, Lack, Opening, Rail, Spread, Tick, Way}
use Rattle.net_plan.specs.{Belonging.{HasDevice, device_name}, declared.{ids.DeviceId.DeviceId, tables.Role.Role}}
use Rattle.{net_plan.specs.Places.device_at, tte_units.specs.Amount.amount}
use Rattle.tte_units.specs.declared.frames.channel.Channel.{Channel, TheVariants.{A, B}}
use Rattle.net_plan.specs.declared.{network.Network.Network, tables.Role.TheVariants.{Client, Cm, Master, Relay}}

-- a place: how far to the right and how far down
abbrev pub point_text : PicturePoint → List ℕ
point_text point = decimal point.x ++ codes " " ++ decimal point.y

-- the words of a stroke along a lane
abbrev pub band_text : Band → List ℕ
band_text (Ground shade) = codes "ground " ++ ground_text shade
band_text (Wait hue) = codes "wait " ++ hue_text hue

-- the word of a role
abbrev pub role_word : Role → List ℕ
role_word Master = codes "master"
role_word Client = codes "client"
role_word Cm = codes "cm"
role_word Relay = codes "relay"

-- the channel of a switch
abbrev pub channel_text : Option Channel → List ℕ
channel_text (Some A) = codes " a"
channel_text (Some B) = codes " b"
channel_text None = []

-- a role, and the channel of a switch
abbrev pub kind_text : Role → Option Channel → List ℕ
kind_text role channel = role_word role ++ channel_text channel

-- what the device is
unfoldable pub role_text : Network → DeviceId → List ℕ
role_text network device = option_map_or (λ d. kind_text d.role d.channel) (device_at network device) []

-- the name of a device beside its lane
unfoldable pub name_part : Network → DeviceId → List ℕ
name_part network device =
    codes "<text class=\"name\" x=\"132\" y=\"3\">" ++ device_name network device ++ codes "</text>"

-- what it is, below its name
unfoldable pub role_part : Network → DeviceId → List ℕ
role_part network device =
    codes "<text class=\"role\" x=\"132\" y=\"15\">" ++ role_text network device ++ codes "</text></g>\n"

-- the beginning of the picture
unfoldable pub opening_line : ℕ → ℕ → List ℕ
opening_line width height =
    codes "<svg xmlns=\"http://www.w3.org/2000/svg\" xmlns:xlink=\"http://www.w3.org/1999/xlink\" width=\""
    ++ decimal width ++ codes "\" height=\"" ++ decimal height ++ codes "\" viewBox=\"0 0 " ++ decimal width
    ++ codes " " ++ decimal height ++ codes "\">\n"

-- where the part of the run that is drawn ends
abbrev pub until_text : ℕ → List ℕ
until_text to = if to == last_time then codes "the end" else micros_text to ++ codes " us"

-- how many records are drawn, and the precision
unfoldable pub extent_text : ℕ → ℕ → List ℕ
extent_text records precision =
    codes ", records " ++ decimal records ++ codes ", precision " ++ micros_text precision
    ++ codes " us. Gaps are drawn shortened.</text>\n"

-- which part of the run is drawn
unfoldable pub caption_line : Span → ℕ → ℕ → List ℕ
caption_line span records precision =
    codes "<text class=\"note\" x=\"12\" y=\"42\">" ++ micros_text span.from ++ codes " us to " ++ until_text span.to
    ++ extent_text records precision

-- a stroke along a lane
unfoldable pub bar_line : Band → PicturePoint → ℕ → List ℕ
bar_line band point to =
    codes "<path class=\"" ++ band_text band ++ codes "\" d=\"M" ++ point_text point ++ codes " H" ++ decimal to
    ++ codes "\"/>\n"

-- a device's name, and the line of its lane
unfoldable pub rail_line : Network → DeviceId → ℕ → ℕ → List ℕ
rail_line network device y to =
    codes "<g transform=\"translate(0," ++ decimal y ++ codes ")\"><path class=\"rail\" d=\"M140 0 H" ++ decimal to
    ++ codes "\"/>" ++ name_part network device ++ role_part network device

-- an instant: a line through all lanes, and its time in microseconds
unfoldable pub tick_line : PicturePoint → ℕ → List ℕ
tick_line point time =
    codes "<g><path class=\"tick\" d=\"M" ++ point_text point
    ++ codes " V168\"/><text class=\"time\" transform=\"translate(" ++ point_text point
    ++ codes ") rotate(50)\" x=\"8\" y=\"6\">" ++ micros_text time ++ codes "</text></g>\n"

-- the word for whether a frame ends
abbrev pub gone_text : Bool → List ℕ
gone_text true = codes " gone"
gone_text false = []

-- a frame's way
unfoldable pub way_line : Hue → Bool → PicturePoint → PicturePoint → List ℕ
way_line hue gone from to =
    codes "<path class=\"way " ++ hue_text hue ++ gone_text gone ++ codes "\" d=\"M" ++ point_text from ++ codes " L"
    ++ point_text to ++ codes "\"/>\n"

-- a clock beside the last mark of its lane: a bar, and how many nanoseconds it lies beyond the least
unfoldable pub gauge_line : PicturePoint → ℕ → ℕ → List ℕ
gauge_line point width nanos =
    codes "<g transform=\"translate(" ++ point_text point
    ++ codes ")\"><path class=\"frame\" d=\"M10 0 h50\"/><path class=\"clock\" d=\"M10 0 h" ++ decimal width
    ++ codes "\"/><text class=\"key\" x=\"66\" y=\"-4\">" ++ decimal nanos ++ codes " ns</text></g>\n"

-- how far the clocks are apart, as a bar
unfoldable pub spread_bar : ℕ → ℕ → List ℕ
spread_bar y width =
    codes "<g transform=\"translate(12 " ++ decimal y
    ++ codes ")\"><path class=\"frame\" d=\"M0 12 h120\"/><path class=\"clock\" d=\"M0 12 h" ++ decimal width
    ++ codes "\"/>"

-- and in words, with how far they may be
unfoldable pub spread_words : ℕ → ℕ → List ℕ
spread_words apart most =
    codes "<text class=\"key\" y=\"28\">clocks " ++ decimal apart
    ++ codes " ns apart,</text><text class=\"key\" y=\"41\">" ++ decimal most ++ codes " ns at most</text></g>\n"

abbrev pub spread_line : ℕ → ℕ → ℕ → ℕ → List ℕ
spread_line y width apart most = spread_bar y width ++ spread_words apart most

-- the box of a window round a mark, with a tick where in the window the frame came
unfoldable pub window_line : PicturePoint → ℕ → List ℕ
window_line point tick =
    codes "<g class=\"window\"><path d=\"M" ++ point_text point
    ++ codes " m-12 -8 h24 v16 h-24 z\"/><path class=\"came\" d=\"M" ++ point_text point ++ codes " m-12 -8 m"
    ++ decimal tick ++ codes " 0 v16\"/></g>\n"

-- that nothing is drawn
abbrev pub lack_line : List ℕ
lack_line = codes "<text class=\"note\" x=\"170\" y=\"140\">No such record lies in this part.</text>\n"

-- the line of something that is drawn
abbrev pub element_line : Network → Element → List ℕ
element_line network (Opening width height) = opening_line width height
element_line network (Caption span records) = caption_line span records (amount network.precision)
element_line network (Bar band point to) = bar_line band point to
element_line network (Rail device y to) = rail_line network device y to
element_line network (Tick point time) = tick_line point time
element_line network (Way hue gone from to) = way_line hue gone from to
element_line network (Gauge point width nanos) = gauge_line point width nanos
element_line network (Spread y width apart most) = spread_line y width apart most
element_line network (Window point tick) = window_line point tick
element_line network Lack = lack_line

-- the device that it names is the network's
abbrev pub HasNames : Network → Element → Type 0
HasNames network (Rail device y to) = HasDevice network device
HasNames network element = ⊤
