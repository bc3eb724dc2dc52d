use Rattle.lens_schedule.{proofs.Joins.joined7, specs.Lines.zone_end}
use Rattle.std.proofs.Common.{◌++◌, ◌∙◌, List, ap, ℕ}
use Rattle.lens_schedule.proofs.text.push_end.Goals as goal

pub returns : goal.returns
unfolding zone_end
returns c =
    let word = c.push-4.ensures.text ∙ ap (λ (ls : List ℕ). c.push-3.new.self ++ ls) c.end_text.ensures.text in
    joined7 _ _ _ _ _ _ _ _ _ _ _ _ _ _ _ c.push.ensures.text c.push_place.ensures.text c.push-2.ensures.text c.push_micros.ensures.text
    c.push-3.ensures.text word c.push-5.ensures.text
