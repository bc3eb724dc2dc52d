use Rattle.{lens.specs.Top.usage_line, std.proofs.Common.{◌≡◌, subst}}
use Rattle.tte_forms.specs.{Answering.{Gives, line_answer}, Putting.shown_by, declared.status.Status.TheVariants.Usage}
use Rattle.lens.proofs.top.put_usage.Goals as goal

pub returns-clause-gives : goal.returns-clause-gives
returns-clause-gives g c =
    let shown = shown_by g.K.Sink in
    let text : c.as_bytes.result.now ≡ usage_line = c.as_bytes.ensures.value in
    subst (λ bytes. Gives (line_answer Usage bytes) c.put_last.result (shown c.args.out.now) (shown c.put_last.new.out)) text
    c.put_last.ensures.gives
