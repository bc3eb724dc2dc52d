use Rattle.lens_schedule.{proofs.Joins.joined6, specs.Lines.device_text}
use Rattle.std.proofs.Common.{◌++◌, ◌∙◌, List, ap, ℕ}
use Rattle.lens_schedule.proofs.text.push_beside.Goals as goal

pub returns-clause-text : goal.returns-clause-text
unfolding device_text
returns-clause-text c =
    let role = c.push-2.ensures.text ∙ ap (λ (word : List ℕ). c.push.new.self ++ word) c.role_of.ensures.text in
    joined6 _ _ _ _ _ _ _ _ _ _ _ _ _ c.push.ensures.text role c.push-3.ensures.text c.push_place.ensures.text c.push-4.ensures.text
    c.push_device.ensures.text
