use Rattle.lens_schedule.{proofs.Joins.joined8, specs.Lines.lane_line}
use Rattle.std.proofs.Common.{◌++◌, ◌∙◌, List, [], ap, ℕ}
use Rattle.lens_schedule.proofs.text.make_lane.Goals as goal

pub returns : goal.returns
unfolding lane_line
returns c =
    let way = c.push-3.ensures.text ∙ ap (λ (ls : List ℕ). c.push-2.new.self ++ ls) c.way_text.ensures.text in
    joined8 [] _ _ _ _ _ _ _ _ _ _ _ _ _ _ _ _ c.make_rail.ensures.text c.push.ensures.text c.push_link.ensures.text c.push-2.ensures.text
    way c.push-4.ensures.text c.push_percent.ensures.text c.push-5.ensures.text
