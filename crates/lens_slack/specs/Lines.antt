-- The lines that `slack` writes.
use Rattle.std.specs.{Fmt.decimal, Option.option_map_or}
use Rattle.std.specs.Prelude.{if◌then◌else◌, ◌++◌, ◌-◌, ◌==◌, List, [], codes, nat_lt, slice_get, ℕ}
use Rattle.{lens_slack.specs.{Spots.device_of, declared.spot.BoundedNumber.BoundedNumber}, net_plan.specs.declared.ids.RowId.RowId}
use Rattle.lens_slack.specs.declared.spot.{Beside.{Beside, TheVariants.{Before, Behind, Calc}}, Finding.Finding}
use Rattle.net_plan.specs.{Belonging.{device_name, link_name, vl_name}, declared.network.Network.Network}
use Rattle.tte_units.specs.declared.frames.channel.Channel.{Channel, TheVariants.{A, B}}
use Rattle.schedule_tables.specs.{Numbers.number_of, declared.rule.Rule.{Rule, TheVariants.{VlNamesDiffer, WindowEnds}}}
use Rattle.schedule_tables.specs.declared.rule.Rule.TheVariants.{BothChannels, CompressionMasters, Connections}
use Rattle.schedule_tables.specs.declared.rule.Rule.TheVariants.{Correction, Delays, DevicesDiffer, Forwarding, Joints}
use Rattle.schedule_tables.specs.declared.rule.Rule.TheVariants.{Limits, LinksDiffer, LinksOnce, Masters, Periods}
use Rattle.schedule_tables.specs.declared.rule.Rule.TheVariants.{Precision, RowsOfDevice, ScheduleStart, Senders}
use Rattle.schedule_tables.specs.declared.rule.Rule.TheVariants.{Settling, Sources, Spacing, Targets, VlIdsDiffer}
use Rattle.trace_text.specs.EventWords.{way_text}
use Rattle.lens_slack.specs.declared.spot.BoundedNumber.TheVariants as spots

-- the name of a channel
abbrev pub channel_text : Channel → List ℕ
channel_text A = codes "a"
channel_text B = codes "b"

-- a row by its virtual link, its link and its way
abbrev pub row_text : Network → RowId → List ℕ
row_text network row =
    option_map_or (λ r. vl_name network r.vl ++ codes " " ++ link_name network r.link ++ codes " " ++ way_text r.way)
    (slice_get network.row row.0) []

-- the rule that bounds the number at the spot
abbrev pub spot_rule : BoundedNumber → Rule
spot_rule (spots.Path device channel) = Delays
spot_rule spots.Settled = Settling
spot_rule spots.Precision = Precision
spot_rule spots.Correction = Correction
spot_rule spots.Begin = ScheduleStart
spot_rule spots.End = ScheduleStart
spot_rule (spots.Window row) = WindowEnds
spot_rule (spots.Gap row) = Spacing
spot_rule (spots.Coming row) = Forwarding

-- the place at which the rule is judged there
abbrev pub spot_index : BoundedNumber → ℕ
spot_index (spots.Path device channel) = device.0
spot_index (spots.Window row) = row.0
spot_index (spots.Gap row) = row.0
spot_index (spots.Coming row) = row.0
spot_index other = 0

-- what the spot is called: a device and a channel, a key of the file, or a row
abbrev pub spot_text : Network → BoundedNumber → List ℕ
spot_text network (spots.Path device channel) = device_name network device ++ codes " " ++ channel_text channel
spot_text network spots.Settled = codes "settled"
spot_text network spots.Precision = codes "precision"
spot_text network spots.Correction = codes "correction"
spot_text network spots.Begin = codes "tt_start"
spot_text network spots.End = codes "tt_start_end"
spot_text network (spots.Window row) = row_text network row
spot_text network (spots.Gap row) = row_text network row
spot_text network (spots.Coming row) = row_text network row

-- the virtual link that is next to the row's on its port, and on which side it is
abbrev pub next_text : Network → Beside → List ℕ
next_text network (Behind vl) = codes " behind " ++ vl_name network vl
next_text network (Before vl) = codes " before " ++ vl_name network vl
next_text network other = []

-- which of two wants is the greater, where it is not the first
abbrev pub want_text : Beside → List ℕ
want_text Calc = codes "calc "
want_text other = []

-- the rule and the spot
unfoldable pub where_text : Network → Finding → List ℕ
where_text network f =
    codes "rule " ++ decimal (number_of (spot_rule f.spot)) ++ codes " at index " ++ decimal (spot_index f.spot)
    ++ codes " " ++ spot_text network f.spot ++ next_text network f.beside

-- the room that is left, or what is short
abbrev pub rest_text : Finding → List ℕ
rest_text f =
    if nat_lt f.has f.wants then codes " short " ++ decimal (f.wants - f.has)
    else codes " room " ++ decimal (f.has - f.wants)

-- the line of a finding
unfoldable pub finding_line : Network → Finding → List ℕ
finding_line network f =
    where_text network f ++ codes " has " ++ decimal f.has ++ codes " wants " ++ want_text f.beside ++ decimal f.wants
    ++ rest_text f ++ codes "\n"

-- the line of how many of the lines above are short
abbrev pub sum_line : ℕ → List ℕ
sum_line shorts = codes "short " ++ decimal shorts ++ codes "\n"

-- the name of a part of the rule of limits
abbrev pub limit_text : ℕ → List ℕ
limit_text part =
    if part == 0 then codes "devices"
    else if part == 1 then codes "links"
    else if part == 2 then codes "vls"
    else codes "rows"

-- the name of a part of the rule of masters
abbrev pub demand_text : ℕ → List ℕ
demand_text part =
    if part == 0 then codes "count"
    else if part == 1 then codes "members"
    else if part == 2 then codes "threshold"
    else if part == 3 then codes "begin_on"
    else if part == 4 then codes "starts"
    else codes "one_channel_off"

-- the name of the link at the place
abbrev pub link_text : Network → ℕ → List ℕ
link_text network place = link_name network (record { 0 = place })

-- the name of the virtual link at the place
abbrev pub vl_text : Network → ℕ → List ℕ
vl_text network place = vl_name network (record { 0 = place })

-- what the place of a rule is called: a device, a link, a virtual link, a row, a channel or a part of the rule; a rule
-- of numbers alone has no names
abbrev pub place_text : Network → Rule → ℕ → List ℕ
place_text network Limits place = limit_text place
place_text network DevicesDiffer place = device_name network (device_of place)
place_text network LinksDiffer place = link_text network place
place_text network CompressionMasters place = if place == 0 then channel_text A else channel_text B
place_text network Joints place = link_text network place
place_text network Connections place = device_name network (device_of place)
place_text network Masters place = demand_text place
place_text network Delays place = device_name network (device_of place)
place_text network Settling place = codes "settled"
place_text network Precision place = codes "precision"
place_text network Correction place = codes "correction"
place_text network ScheduleStart place = codes "tt_start"
place_text network WindowEnds place = row_text network (record { 0 = place })
place_text network VlNamesDiffer place = vl_text network place
place_text network VlIdsDiffer place = vl_text network place
place_text network Periods place = vl_text network place
place_text network Senders place = vl_text network place
place_text network LinksOnce place = row_text network (record { 0 = place })
place_text network Sources place = row_text network (record { 0 = place })
place_text network Targets place = row_text network (record { 0 = place })
place_text network Spacing place = row_text network (record { 0 = place })
place_text network BothChannels place = vl_text network place
place_text network Forwarding place = row_text network (record { 0 = place })
place_text network RowsOfDevice place = device_name network (device_of place)

-- the line of what the index of a broken rule means
unfoldable pub place_line : Network → Rule → ℕ → List ℕ
place_line network rule place =
    codes "at index " ++ decimal place ++ codes " " ++ place_text network rule place ++ codes "\n"
