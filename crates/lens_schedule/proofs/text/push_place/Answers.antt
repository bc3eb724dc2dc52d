use Rattle.lens_schedule.{proofs.Joins.joined5, specs.Lines.place_text}
use Rattle.lens_schedule.proofs.text.push_place.Goals as goal

pub returns-clause-text : goal.returns-clause-text
unfolding place_text
returns-clause-text c =
    joined5 _ _ _ _ _ _ _ _ _ _ _ c.push.ensures.text c.push_decimal.ensures.text c.push-2.ensures.text c.push_decimal-2.ensures.text
    c.push-3.ensures.text
