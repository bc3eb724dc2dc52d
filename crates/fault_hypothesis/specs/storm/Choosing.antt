-- What the words of a step choose.
use Rattle.std.specs.Prelude.{if◌then◌else◌, ◌%◌, ◌*◌, ◌+ℤ◌, ◌+◌, ◌-ℤ◌, ◌==◌, ◌^◌, ◌||◌, length, nat_lt, pos, ℕ}
use Rattle.fault_hypothesis.specs.declared.storm.draw.Choice.TheVariants.{Cut, Heal, Hold, On, Rate, Strike, Wire}
use Rattle.fault_hypothesis.specs.declared.storm.draw.{Choice.Choice, StormDraw.StormDraw}
use Rattle.net_plan.specs.declared.{ids.DeviceId.DeviceId, network.Network.Network, tables.Way.TheVariants.{Down, Up}}
use Rattle.{net_plan.specs.declared.{ids.LinkId.LinkId, tables.Link.Link}, tte_units.specs.Amount.{amount, units_of}}
use Rattle.{net_plan.specs.declared.tables.Way.Way, tte_units.specs.declared.rates.Ppb.Ppb}
use Rattle.tte_units.specs.declared.{frames.channel.Channel.{Channel, TheVariants.{A, B}}, units.Units.Units}

-- the kind of event that the first word chooses: two of eight are rates
abbrev pub choice_of : ℕ → Choice
choice_of word =
    let rest = word % 8 in
    if rest == 0 || rest == 1 then Rate
    else (if rest == 2 then Wire
    else (if rest == 3 then Hold
    else (if rest == 4 then Cut
    else (if rest == 5 then Heal
    else (if rest == 6 then On
    else Strike)))))

-- the device that the second word chooses
abbrev pub device_of : Network → StormDraw → DeviceId
device_of network draw = record { 0 = draw.place % length network.device }

-- the link that the second word chooses
abbrev pub link_of : Network → StormDraw → LinkId
link_of network draw = record { 0 = draw.place % length network.link }

-- the way that the second word chooses: up where its highest bit is 0
abbrev pub way_of : StormDraw → Way
way_of draw = if nat_lt draw.place (2 ^ 31) then Up else Down

-- the channel that the second word chooses: a where it is even
abbrev pub channel_of : StormDraw → Channel
channel_of draw = if draw.place % 2 == 0 then A else B

-- the rate that the third word chooses, from -rho to rho
abbrev pub rate_of : Network → StormDraw → Ppb
rate_of network draw = record { 0 = pos (draw.size % (2 * network.rho + 1)) -ℤ pos network.rho }

-- the wire delay that the third word chooses, from the link's wire to that and its jitter
abbrev pub wire_of : Link → StormDraw → Units
wire_of link draw = record { 0 = link.wire.0 +ℤ pos (draw.size % (amount link.jitter + 1)) }

-- the hold that the third word chooses, up to the link's
abbrev pub hold_of : Link → StormDraw → Units
hold_of link draw = units_of (draw.size % (amount link.hold + 1))
