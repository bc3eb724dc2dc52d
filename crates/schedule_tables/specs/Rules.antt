-- The rules that make a network acceptable.
use Rattle.std.specs.Prelude.{◌<◌, ℕ}
use Rattle.net_plan.specs.Rules.{DeviceIsNew, HasOneCm, IsConnected, IsWithinLimits, JoinsChildToSwitch, LinkIsNew}
use Rattle.net_plan.specs.{Rules.MastersSuffice, declared.network.Network.Network}
use Rattle.schedule_tables.specs.Delays.{CorrectionFits, DelaysFit, ErrorsSettle, PrecisionFits, ScheduleFits}
use Rattle.schedule_tables.specs.{Numbers.number_of, declared.rule.Rule.{Rule, TheVariants.{VlNamesDiffer, WindowEnds}}}
use Rattle.schedule_tables.specs.Schedule.{ComesInTime, EndsInCycle, EntersAnew, GoesByBothChannels, GoesOnceByLink}
use Rattle.schedule_tables.specs.Schedule.{HasEndSystemAsSender, HasFewRows, HasPeriod, HasSource, StandsApart}
use Rattle.schedule_tables.specs.Schedule.{VlIdIsNew, VlNameIsNew}
use Rattle.schedule_tables.specs.declared.rule.Rule.TheVariants.{BothChannels, CompressionMasters, Connections}
use Rattle.schedule_tables.specs.declared.rule.Rule.TheVariants.{Correction, Delays, DevicesDiffer, Forwarding, Joints}
use Rattle.schedule_tables.specs.declared.rule.Rule.TheVariants.{Limits, LinksDiffer, LinksOnce, Masters, Periods}
use Rattle.schedule_tables.specs.declared.rule.Rule.TheVariants.{Precision, RowsOfDevice, ScheduleStart, Senders}
use Rattle.schedule_tables.specs.declared.rule.Rule.TheVariants.{Settling, Sources, Spacing, Targets, VlIdsDiffer}

-- the network keeps the rule at the place; a rule without places is kept at each or at none
abbrev pub IsKeptAt : Rule → Network → ℕ → Type 0
IsKeptAt Limits network place = IsWithinLimits network place
IsKeptAt DevicesDiffer network place = DeviceIsNew network place
IsKeptAt LinksDiffer network place = LinkIsNew network place
IsKeptAt CompressionMasters network place = HasOneCm network place
IsKeptAt Joints network place = JoinsChildToSwitch network place
IsKeptAt Connections network place = IsConnected network place
IsKeptAt Masters network place = MastersSuffice network place
IsKeptAt Delays network place = DelaysFit network place
IsKeptAt Settling network place = ErrorsSettle network
IsKeptAt Precision network place = PrecisionFits network
IsKeptAt Correction network place = CorrectionFits network
IsKeptAt ScheduleStart network place = ScheduleFits network
IsKeptAt WindowEnds network place = EndsInCycle network place
IsKeptAt VlNamesDiffer network place = VlNameIsNew network place
IsKeptAt VlIdsDiffer network place = VlIdIsNew network place
IsKeptAt Periods network place = HasPeriod network place
IsKeptAt Senders network place = HasEndSystemAsSender network place
IsKeptAt LinksOnce network place = GoesOnceByLink network place
IsKeptAt Sources network place = HasSource network place
IsKeptAt Targets network place = EntersAnew network place
IsKeptAt Spacing network place = StandsApart network place
IsKeptAt BothChannels network place = GoesByBothChannels network place
IsKeptAt Forwarding network place = ComesInTime network place
IsKeptAt RowsOfDevice network place = HasFewRows network place

-- the network keeps the rule
abbrev pub IsKept : Rule → Network → Type 0
IsKept rule network = (place : ℕ) → IsKeptAt rule network place

-- the network keeps each rule of a number below this one
abbrev pub KeepsBelow : ℕ → Network → Type 0
KeepsBelow number network = (rule : Rule) → number_of rule < number → IsKept rule network

-- the network keeps each rule
abbrev pub KeepsRules : Network → Type 0
KeepsRules network = (rule : Rule) → IsKept rule network

-- the place is the first at which the network breaks the rule, and it keeps all rules before this one
pub record IsFirstBroken (network : Network) (rule : Rule) (place : ℕ) : Type 0 where
  pub rules : KeepsBelow (number_of rule) network
  pub places : (k : ℕ) → k < place → IsKeptAt rule network k
  pub broken : ¬ IsKeptAt rule network place
