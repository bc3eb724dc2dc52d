use Rattle.lens_plan.proofs.Plans.{found_told}
use Rattle.lens_plan.specs.{declared.places.placing.Placed.Placed, places.InOrder.rows_in_order}
use Rattle.lens_plan.specs.{text.Refusals.{IsTellable, row_limit}}
use Rattle.std.{proofs.Common.{◌-◌, ◌∙◌, List, Option, ap, subst, sym}, specs.{List.find, Prelude.{◌==◌, IfSome}}}
use Rattle.lens_plan.proofs.text.refusals.short_row.Goals as goal

pub returns-clause-row : goal.returns-clause-row
returns-clause-row c =
    c.first_late.ensures
    ∙ ap (λ (ps : List Placed). find (λ p. (p.end - row_limit c.args.network.now c.args.message.now p.hop) == c.args.attempt.now.score.short) ps)
    (c.as_slice-2.ensures.value ∙ c.in-Ok.ensures ∙ ap (rows_in_order c.args.network.now) c.as_slice.ensures.value)

pub returns-clause-tells : goal.returns-clause-tells
returns-clause-tells c =
    subst (λ (o : Option Placed). IfSome o (IsTellable c.args.network.now)) (sym (returns-clause-row c))
    (found_told c.args.network.now (λ p. (p.end - row_limit c.args.network.now c.args.message.now p.hop) == c.args.attempt.now.score.short)
    c.args.attempt.now.placed.items c.requires.ordered)
