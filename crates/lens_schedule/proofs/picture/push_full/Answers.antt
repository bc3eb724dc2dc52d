use Rattle.lens_schedule.proofs.Joins.{joined4}
use Rattle.lens_schedule.proofs.picture.push_full.Goals as goal

pub returns : goal.returns
returns c =
    joined4 _ _ _ _ _ _ _ _ _ c.in_ok-push_zones.ensures c.in_ok-push_zones-2.ensures c.in_ok-push_lanes.ensures c.in_ok-push_frames.ensures
