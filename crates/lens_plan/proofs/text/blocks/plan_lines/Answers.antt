use Rattle.lens_plan.{proofs.Plans.blocks_more, specs.declared.text.line.PlanLine.PlanLine}
use Rattle.lens_plan.specs.text.Blocks.{message_blocks}
use Rattle.std.proofs.Common.{◌++◌, ◌∙◌, List, ap, arith, get_or, refl, sym}
use Rattle.lens_plan.proofs.text.blocks.plan_lines.Goals as goal

pub messages-preserved : goal.messages-preserved
messages-preserved c =
    let network = c.args.network.now in
    let n = c.messages.place in
    let lt = c.messages-test.true in
    let m = c.index-messages-place.result in
    let a = c.index-attempts-place.result in
    let id = get_or c.args.ids.now n 0 in
    let all = blocks_more network c.args.messages.now c.args.ids.now c.args.attempts.now n m id 0 a lt (omega (arith, lt, c.requires.ids))
    (omega (arith, lt, c.requires.attempts)) c.index-messages-place.is refl c.index-attempts-place.is in
    c.in-Ok.ensures ∙ ap (λ (ls : List PlanLine). ls ++ message_blocks network m id a) c.messages.invariant ∙ sym all
