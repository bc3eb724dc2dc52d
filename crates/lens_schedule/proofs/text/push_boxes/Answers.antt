use Rattle.lens_schedule.{proofs.Joins.joined5, specs.{Frames.{height_of, seat_of}, Lines.{box_text, boxes_text}}}
use Rattle.std.proofs.Common.{◌++◌, ◌∙◌, ap}
use Rattle.lens_schedule.proofs.text.push_boxes.Goals as goal

pub returns : goal.returns
unfolding boxes_text
returns c =
    let frame = c.args.frame.now in
    let seat = c.seat_of-seat.ensures ∙ ap seat_of c.into.ensures in
    let high = c.height_of-height.ensures ∙ ap height_of c.into-2.ensures in
    let window = c.push_box.ensures.text ∙ ap (λ s. c.push.new.self ++ box_text frame.window s c.height_of-height.result) seat
    ∙ ap (λ h. c.push.new.self ++ box_text frame.window (seat_of frame.phase) h) high in
    let port = c.push_box-2.ensures.text ∙ ap (λ s. c.push-2.new.self ++ box_text frame.port s c.height_of-height.result) seat
    ∙ ap (λ h. c.push-2.new.self ++ box_text frame.port (seat_of frame.phase) h) high in
    joined5 _ _ _ _ _ _ _ _ _ _ _ c.push.ensures.text window c.push-2.ensures.text port c.push-3.ensures.text
