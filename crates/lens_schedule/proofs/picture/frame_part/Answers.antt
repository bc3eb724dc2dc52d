use Rattle.lens_schedule.specs.{Frames.frame_of, Lanes.column_by, Picture.lane_place, declared.part.SchedulePart.TheVariants.Frame}
use Rattle.std.proofs.Common.{◌∙◌, ap}
use Rattle.lens_schedule.proofs.picture.frame_part.Goals as goal

pub returns : goal.returns
returns c =
    let network = c.args.network.now in
    let lanes = c.args.lanes.now in
    let entry = c.args.entry.now in
    let at = c.lane_place-at.ensures
    ∙ ap (λ x. lane_place lanes c.args.top x c.port_number-port.result) c.column_by.ensures
    ∙ ap (λ n. lane_place lanes c.args.top (column_by network entry.row.link) n) c.port_number-port.ensures.value in
    ap Frame (c.frame_of.ensures ∙ ap (λ p. frame_of network c.args.scale p entry) at)
