-- Which spots a rule bounds, and in which order they are looked at.
use Rattle.std.specs.Prelude.{if◌then◌else◌, ◌%◌, ◌*◌, ◌/◌, ◌<◌, ◌==◌, ◌∷◌, ◌≡◌, ◌⊎◌, List, Option, Some, [], length, ℕ}
use Rattle.net_plan.specs.declared.{ids.{DeviceId.DeviceId, RowId.RowId}, network.Network.Network}
use Rattle.tte_units.specs.declared.frames.channel.Channel.{Channel, TheVariants.{A, B}}
use Rattle.schedule_tables.specs.declared.rule.Rule.TheVariants.{Correction, Delays, Forwarding, Precision}
use Rattle.schedule_tables.specs.declared.rule.Rule.{Rule, TheVariants.{ScheduleStart, Settling, Spacing, WindowEnds}}
use Rattle.lens_slack.specs.{Tightest.{IsFirstTightest, IsTightestAt}, declared.spot.Finding.Finding}
use Rattle.lens_slack.specs.declared.spot.{Measure.Measure, BoundedNumber.BoundedNumber}
use Rattle.lens_slack.specs.declared.spot.Measure.TheVariants as measures
use Rattle.lens_slack.specs.declared.spot.BoundedNumber.TheVariants as spots

-- the rule whose bounds these are
abbrev pub rule_of : Measure → Rule
rule_of measures.Paths = Delays
rule_of measures.Settled = Settling
rule_of measures.Precision = Precision
rule_of measures.Correction = Correction
rule_of measures.Begin = ScheduleStart
rule_of measures.End = ScheduleStart
rule_of measures.Windows = WindowEnds
rule_of measures.Gaps = Spacing
rule_of measures.Comings = Forwarding

-- the measures of a rule, which are none where the rule is no inequality
abbrev pub measures_of : Rule → List Measure
measures_of Delays = measures.Paths ∷ []
measures_of Settling = measures.Settled ∷ []
measures_of Precision = measures.Precision ∷ []
measures_of Correction = measures.Correction ∷ []
measures_of ScheduleStart = measures.Begin ∷ measures.End ∷ []
measures_of WindowEnds = measures.Windows ∷ []
measures_of Spacing = measures.Gaps ∷ []
measures_of Forwarding = measures.Comings ∷ []
measures_of other = []

-- the device of this place
abbrev pub device_of : ℕ → DeviceId
device_of place = record { 0 = place }

-- the row of this place
abbrev pub row_of : ℕ → RowId
row_of place = record { 0 = place }

-- the channel of this number
abbrev pub channel_of : ℕ → Channel
channel_of n = if n == 0 then A else B

-- how many spots the measure looks at
abbrev pub spots_of : Measure → Network → ℕ
spots_of measures.Paths network = 2 * length network.device
spots_of measures.Windows network = length network.row
spots_of measures.Gaps network = length network.row
spots_of measures.Comings network = length network.row
spots_of other network = 1

-- the spot of this number: those of a device are on channel a and on channel b
abbrev pub spot_at : Measure → ℕ → BoundedNumber
spot_at measures.Paths n = spots.Path (device_of (n / 2)) (channel_of (n % 2))
spot_at measures.Settled n = spots.Settled
spot_at measures.Precision n = spots.Precision
spot_at measures.Correction n = spots.Correction
spot_at measures.Begin n = spots.Begin
spot_at measures.End n = spots.End
spot_at measures.Windows n = spots.Window (row_of n)
spot_at measures.Gaps n = spots.Gap (row_of n)
spot_at measures.Comings n = spots.Coming (row_of n)

-- the spot is one that the rule bounds at the place; a rule without places bounds its spots at each
abbrev pub IsSpotAt : Rule → ℕ → BoundedNumber → Type 0
IsSpotAt Delays place spot = (channel : Channel) × (spot ≡ spots.Path (device_of place) channel)
IsSpotAt Settling place spot = spot ≡ spots.Settled
IsSpotAt Precision place spot = spot ≡ spots.Precision
IsSpotAt Correction place spot = spot ≡ spots.Correction
IsSpotAt ScheduleStart place spot = (spot ≡ spots.Begin) ⊎ (spot ≡ spots.End)
IsSpotAt WindowEnds place spot = spot ≡ spots.Window (row_of place)
IsSpotAt Spacing place spot = spot ≡ spots.Gap (row_of place)
IsSpotAt Forwarding place spot = spot ≡ spots.Coming (row_of place)
IsSpotAt other place spot = ⊥

-- the row of the spot, where it has one, is the network's
abbrev pub IsSpotOf : Network → BoundedNumber → Type 0
IsSpotOf network (spots.Window row) = row.0 < length network.row
IsSpotOf network (spots.Gap row) = row.0 < length network.row
IsSpotOf network (spots.Coming row) = row.0 < length network.row
IsSpotOf network other = Unit {0}

-- this is found at the spot of this number of the measure
abbrev pub IsFoundAt : Network → Measure → ℕ → Finding → Type 0
IsFoundAt network measure n f = (n < spots_of measure network) × IsTightestAt network (spot_at measure n) (Some f)

-- the tightest of all spots of the measure, the first of equals
abbrev pub IsTightestOf : Network → Measure → Option Finding → Type 0
IsTightestOf network measure f = IsFirstTightest (IsFoundAt network measure) f
