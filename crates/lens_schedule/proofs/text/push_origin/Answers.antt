use Rattle.lens_schedule.{proofs.Joins.joined4, specs.Lines.origin_text}
use Rattle.std.proofs.Common.{◌++◌, ◌∙◌, List, ap, ℕ}
use Rattle.lens_schedule.proofs.text.push_origin.Goals as goal

pub returns-clause-text : goal.returns-clause-text
unfolding origin_text
returns-clause-text c =
    let role = c.push-2.ensures.text ∙ ap (λ (word : List ℕ). c.push.new.self ++ word) c.role_of.ensures.text in
    joined4 _ _ _ _ _ _ _ _ _ c.push.ensures.text role c.push_uplink.ensures.text c.push-3.ensures.text
