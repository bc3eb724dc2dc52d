use Rattle.{lens_schedule.proofs.LaneLists.no_lane, std.proofs.Common.{◌∙◌, sym}}
use Rattle.lens_schedule.proofs.lanes.push_lane.Goals as goal

pub returns-else-is_used : goal.returns-else-is_used
returns-else-is_used c =
    no_lane c.args.network.now c.args.entries.now c.args.port c.args.lanes.now.items (sym c.is_used.ensures ∙ c.if-is_used.false)
