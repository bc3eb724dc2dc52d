use Rattle.lens_plan.{proofs.Plans.text_more, specs.text.Lines.plan_line}
use Rattle.std.proofs.Common.{◌++◌, ◌∙◌, List, ap, ℕ}
use Rattle.lens_plan.proofs.joining.joined.push_text.Goals as goal

pub lines-preserved : goal.lines-preserved
lines-preserved c =
    text_more c.args.text.now.items c.lines.text.items c.args.lines.now c.lines.of-index c.of-item.result c.lines-test.true c.lines.invariant
    (c.in-Ok.ensures ∙ ap (λ (ys : List ℕ). c.lines.text.items ++ ys) (c.as_slice.ensures ∙ c.make_plan_line.ensures ∙ ap plan_line c.of-item.is))
