-- The numbers of the parts of rules that have parts.
use Rattle.std.specs.Prelude.{ℕ}
use Rattle.tte_units.specs.declared.frames.channel.Channel.{Channel, TheVariants.{A, B}}
use Rattle.schedule_checker.specs.declared.shape.{limits.Limit.Limit, masters.Demand.Demand}
use Rattle.schedule_checker.specs.declared.shape.limits.Limit.TheVariants as limits
use Rattle.schedule_checker.specs.declared.shape.masters.Demand.TheVariants as demands

-- the part of the rule on limits that speaks of these
abbrev pub part_of_limit : Limit → ℕ
part_of_limit limits.Devices = 0
part_of_limit limits.Links = 1
part_of_limit limits.VirtualLinks = 2
part_of_limit limits.Rows = 3

-- the part of the rule on compression masters that speaks of the channel
abbrev pub part_of_channel : Channel → ℕ
part_of_channel A = 0
part_of_channel B = 1

-- the part of the rule on masters that demands this
abbrev pub part_of_demand : Demand → ℕ
part_of_demand demands.Count = 0
part_of_demand demands.Members = 1
part_of_demand demands.Threshold = 2
part_of_demand demands.BeginOn = 3
part_of_demand demands.Starts = 4
part_of_demand demands.OneChannelOff = 5
