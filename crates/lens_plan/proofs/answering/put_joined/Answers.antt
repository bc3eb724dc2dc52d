use Rattle.lens_plan.{proofs.Plans.no_join_given, specs.joining.Joined.IsNoJoin}
use Rattle.{std.proofs.Common.subst, tte_forms.specs.Putting.shown_by}
use Rattle.lens_plan.proofs.answering.put_joined.Goals as goal

pub returns-in-Err-clause-gives : goal.returns-in-Err-clause-gives
returns-in-Err-clause-gives g c =
    let shown = shown_by g.K.Sink in
    let file = c.args.file.now in
    let none = subst (λ o. IsNoJoin o c.args.lines.now c.in-Err.cause) c.as_slice.ensures c.in-Err.ensures.none in
    no_join_given file.octets file.accepted c.put_no_join.result (shown c.args.out.now) (shown c.put_no_join.new.out) c.args.messages.now c.args.lines.now
    c.in-Err.cause none c.put_no_join.ensures.gives
