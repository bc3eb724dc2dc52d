use Rattle.{lens_svg.specs.Windows.came_of, std.{proofs.{Common.{◌∙◌, ap, rules}, lemmas.Int.to_z-of_z}, specs.Int.w128}}
use Rattle.lens.proofs.draw.windows.came_at.Goals as goal

pub returns-in-Taken : goal.returns-in-Taken
returns-in-Taken c befallen hs index =
    c.came_of.ensures
    ∙ ap (λ z. came_of c.args.network.now c.args.mark.now z)
    (to_z-of_z w128 c.clock_at-clock.result (search rules) ∙ c.clock_at-clock.ensures.is befallen hs index)
