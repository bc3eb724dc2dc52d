use Rattle.{lens_page.{proofs.Puts.{gives_no_more, gives_then}, specs.Closing.page_closing}, std.proofs.Common.{◌∙◌, subst}}
use Rattle.tte_forms.specs.{Answering.{Gives, line_answer}, Putting.shown_by, declared.status.Status.TheVariants.Done}
use Rattle.lens_page.proofs.putting.put_report.Goals as goal

pub returns-in-Ok-clause-gives : goal.returns-in-Ok-clause-gives
returns-in-Ok-clause-gives g c =
    let shown = shown_by g.K.Sink in
    let now = shown c.put.new.self in
    let new = shown c.put_last.new.out in
    gives_then c.args.report.now (line_answer Done page_closing) c.put_last.result (shown c.args.out.now)
    c.in-Ok.ensures.all c.put.ensures.counted
    (subst (λ text. Gives (line_answer Done text) c.put_last.result now new) (c.as_bytes.ensures.value ∙ c.page_closing.ensures)
    c.put_last.ensures.gives)

pub returns-in-Err-clause-gives : goal.returns-in-Err-clause-gives
returns-in-Err-clause-gives g c =
    let shown = shown_by g.K.Sink in
    gives_no_more c.args.report.now (line_answer Done page_closing) (shown c.args.out.now) (shown c.put.new.self) c.in-Err.ensures.front c.put.ensures.counted
