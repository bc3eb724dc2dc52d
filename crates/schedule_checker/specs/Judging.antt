-- Where the rules are judged.
use Rattle.std.specs.Prelude.{◌<◌, length, ℕ}
use Rattle.{net_plan.specs.{Bounds.IsBeta, declared.network.Network.Network}, schedule_tables.specs.Entries.AreEntries}
use Rattle.{net_plan.specs.{Paths.IsTree, Ranges.IsInRange}, schedule_checker.specs.Groups.AreGroups}
use Rattle.schedule_checker.specs.declared.{judge.Plan.Plan, parts.{PlanRule.PlanRule, ShapeRule.ShapeRule}}
use Rattle.schedule_tables.specs.{Rules.IsKeptAt, declared.rule.Rule.{Rule, TheVariants.{VlNamesDiffer, WindowEnds}}}
use Rattle.schedule_tables.specs.declared.rule.Rule.TheVariants.{BothChannels, CompressionMasters, Connections}
use Rattle.schedule_tables.specs.declared.rule.Rule.TheVariants.{Correction, Delays, DevicesDiffer, Forwarding, Joints}
use Rattle.schedule_tables.specs.declared.rule.Rule.TheVariants.{Limits, LinksDiffer, LinksOnce, Masters, Periods}
use Rattle.schedule_tables.specs.declared.rule.Rule.TheVariants.{Precision, RowsOfDevice, ScheduleStart, Senders}
use Rattle.schedule_tables.specs.declared.rule.Rule.TheVariants.{Settling, Sources, Spacing, Targets, VlIdsDiffer}
use Rattle.schedule_checker.specs.declared.parts.PlanRule.TheVariants as plans
use Rattle.schedule_checker.specs.declared.parts.ShapeRule.TheVariants as shapes

-- at how many places the rule is judged: those of devices, links, virtual links or rows, the parts of
-- a rule with parts, and one for any other
abbrev pub places_of : Rule → Network → ℕ
places_of Limits network = 4
places_of DevicesDiffer network = length network.device
places_of LinksDiffer network = length network.link
places_of CompressionMasters network = 2
places_of Joints network = length network.link
places_of Connections network = length network.device
places_of Masters network = 6
places_of Delays network = length network.device
places_of Settling network = 1
places_of Precision network = 1
places_of Correction network = 1
places_of ScheduleStart network = 1
places_of WindowEnds network = length network.row
places_of VlNamesDiffer network = length network.vl
places_of VlIdsDiffer network = length network.vl
places_of Periods network = length network.vl
places_of Senders network = length network.vl
places_of LinksOnce network = length network.row
places_of Sources network = length network.row
places_of Targets network = length network.row
places_of Spacing network = length network.row
places_of BothChannels network = length network.vl
places_of Forwarding network = length network.row
places_of RowsOfDevice network = length network.device

-- the rule that a rule of the network's shape is: one of those on devices and links
abbrev pub shape_rule : ShapeRule → Rule
shape_rule shapes.Limits = Limits
shape_rule shapes.DevicesDiffer = DevicesDiffer
shape_rule shapes.LinksDiffer = LinksDiffer
shape_rule shapes.CompressionMasters = CompressionMasters
shape_rule shapes.Joints = Joints
shape_rule shapes.Connections = Connections
shape_rule shapes.Masters = Masters

-- the rule that one behind those of the shape is
abbrev pub plan_rule : PlanRule → Rule
plan_rule plans.Delays = Delays
plan_rule plans.Settling = Settling
plan_rule plans.Precision = Precision
plan_rule plans.Correction = Correction
plan_rule plans.ScheduleStart = ScheduleStart
plan_rule plans.WindowEnds = WindowEnds
plan_rule plans.VlNamesDiffer = VlNamesDiffer
plan_rule plans.VlIdsDiffer = VlIdsDiffer
plan_rule plans.Periods = Periods
plan_rule plans.Senders = Senders
plan_rule plans.LinksOnce = LinksOnce
plan_rule plans.Sources = Sources
plan_rule plans.Targets = Targets
plan_rule plans.Spacing = Spacing
plan_rule plans.BothChannels = BothChannels
plan_rule plans.Forwarding = Forwarding
plan_rule plans.RowsOfDevice = RowsOfDevice

-- the rule is kept at each place below this one, and not at it
pub record BreaksAt (network : Network) (rule : Rule) (place : ℕ) : Type 0 where
  pub places : (k : ℕ) → k < place → IsKeptAt rule network k
  pub broken : ¬ IsKeptAt rule network place

-- what the rules behind those of the shape speak of: the trees that these leave, the entries of the rows in
-- their groups, and beta
pub record IsPlan (plan : Plan) : Type 0 where
  pub range : IsInRange plan.network.now
  pub tree : IsTree plan.network.now
  pub entries : AreEntries plan.network.now plan.entries.now
  pub groups : AreGroups plan.entries.now plan.groups.now
  pub beta : IsBeta plan.network.now plan.beta.0
