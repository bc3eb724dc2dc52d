use Rattle.lens_schedule.{proofs.NextParts.map_next, specs.Picture.frame_part}
use Rattle.std.proofs.Common.{◌∙◌, ap}
use Rattle.lens_schedule.proofs.picture.push_frames.Goals as goal

pub entries-preserved : goal.entries-preserved
entries-preserved c =
    let part = frame_part c.args.network.now c.args.scale c.args.lanes.now c.args.top in
    map_next part c.args.entries.now c.entries.entry-index c.entry-item.result c.args.parts.now.items _ _ _
    c.entries-test.true c.entries.invariant c.in_ok-push.ensures.items (c.frame_part.ensures ∙ ap part c.entry-item.is)
