use Rattle.lens_schedule.{proofs.Joins.joined5, specs.Lines.group_text}
use Rattle.std.proofs.Common.{◌%◌, ◌++◌, ◌∙◌, ap, ℕ}
use Rattle.std.specs.Prelude.{decimal}
use Rattle.lens_schedule.proofs.text.push_group.Goals as goal

pub returns-clause-text : goal.returns-clause-text
unfolding group_text
returns-clause-text c =
    let number = c.push_decimal.ensures.text ∙ ap (λ (k : ℕ). c.push.new.self ++ decimal (k % 8)) c.from.ensures in
    joined5 _ _ _ _ _ _ _ _ _ _ _ c.push.ensures.text number c.push-2.ensures.text c.push_place.ensures.text c.push-3.ensures.text
