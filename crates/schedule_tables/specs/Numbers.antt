-- The order in which the rules are judged.
use Rattle.std.specs.Prelude.{ℕ}
use Rattle.schedule_tables.specs.declared.rule.Rule.TheVariants.{BothChannels, CompressionMasters, Connections}
use Rattle.schedule_tables.specs.declared.rule.Rule.TheVariants.{Correction, Delays, DevicesDiffer, Forwarding, Joints}
use Rattle.schedule_tables.specs.declared.rule.Rule.TheVariants.{Limits, LinksDiffer, LinksOnce, Masters, Periods}
use Rattle.schedule_tables.specs.declared.rule.Rule.TheVariants.{Precision, RowsOfDevice, ScheduleStart, Senders}
use Rattle.schedule_tables.specs.declared.rule.Rule.TheVariants.{Settling, Sources, Spacing, Targets, VlIdsDiffer}
use Rattle.schedule_tables.specs.declared.rule.Rule.{Rule, TheVariants.{VlNamesDiffer, WindowEnds}}

-- the number of the rule
abbrev pub number_of : Rule → ℕ
number_of Limits = 1
number_of DevicesDiffer = 2
number_of LinksDiffer = 3
number_of CompressionMasters = 4
number_of Joints = 5
number_of Connections = 6
number_of Masters = 7
number_of Delays = 8
number_of Settling = 9
number_of Precision = 10
number_of Correction = 11
number_of ScheduleStart = 12
number_of WindowEnds = 13
number_of VlNamesDiffer = 14
number_of VlIdsDiffer = 15
number_of Periods = 16
number_of Senders = 17
number_of LinksOnce = 18
number_of Sources = 19
number_of Targets = 20
number_of Spacing = 21
number_of BothChannels = 22
number_of Forwarding = 23
number_of RowsOfDevice = 24
