use Rattle.lens_plan.{proofs.Plans.{lines_given, no_plan_given, tells}, specs.declared.text.line.PlanLine.PlanLine}
use Rattle.lens_plan.specs.{Answer.{ArePlanLines, IsJoinedAnswer, IsToldBy}, places.Planning.IsNoPlan}
use Rattle.std.proofs.Common.{subst}
use Rattle.tte_forms.specs.{Answering.GivesAnswer, Putting.shown_by}
use Rattle.lens_plan.proofs.answering.plan_of_messages.Goals as goal

pub put_no_plan-requires-clause-device : goal.put_no_plan-requires-clause-device
put_no_plan-requires-clause-device g c = tells c.network-network.result.now c.args.messages.now c.in-Err.cause c.in-Err.ensures.none

pub returns-in-Ok-clause-gives : goal.returns-in-Ok-clause-gives
returns-in-Ok-clause-gives g c =
    let shown = shown_by g.K.Sink in
    let file = c.args.file.now in
    let are = subst (λ n. ArePlanLines n c.args.messages.now c.in-Ok.lines.items) c.network-network.ensures.value c.in-Ok.ensures.lines in
    let given =
    subst (λ ls. GivesAnswer (IsJoinedAnswer file.octets file.accepted c.args.messages.now ls) c.put_joined.result (shown c.args.out.now)
    (shown c.put_joined.new.out)) c.as_slice.ensures.value c.put_joined.ensures.gives in
    lines_given file.octets file.accepted c.put_joined.result (shown c.args.out.now) (shown c.put_joined.new.out) c.args.messages.now c.in-Ok.lines.items are
    given

pub returns-in-Err-clause-gives : goal.returns-in-Err-clause-gives
returns-in-Err-clause-gives g c =
    let shown = shown_by g.K.Sink in
    let file = c.args.file.now in
    let is = subst (λ n. IsNoPlan n c.args.messages.now c.in-Err.cause) c.network-network.ensures.value c.in-Err.ensures.none in
    let given =
    subst (λ n. GivesAnswer (IsToldBy n c.args.messages.now c.in-Err.cause) c.put_no_plan.result (shown c.args.out.now)
    (shown c.put_no_plan.new.out)) c.network-network.ensures.value c.put_no_plan.ensures.gives in
    no_plan_given file.octets file.accepted c.put_no_plan.result (shown c.args.out.now) (shown c.put_no_plan.new.out) c.args.messages.now c.in-Err.cause is
    given
