use Rattle.{lens_why.specs.Grounds.window_ground, net_plan.specs.Places.row_of, std.{proofs.{Common.{◌∙◌, ap, rules}, lemmas.Int.to_z-of_z}, specs.Int.w128}}
use Rattle.lens_why.proofs.ground.taken.Goals as goal

pub returns : goal.returns
returns c befallen hs known =
    c.window_on.ensures
    ∙ ap (λ z. window_ground c.args.network.now z (row_of c.args.network.now c.args.vl c.args.link))
    (to_z-of_z w128 c.position_at-at.result (search rules) ∙ c.position_at-at.ensures befallen hs known)
