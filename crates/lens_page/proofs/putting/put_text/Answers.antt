use Rattle.lens_page.{proofs.Puts.{gives_no_more, gives_then}, specs.Closing.page_closing}
use Rattle.tte_forms.specs.{Answering.{line_answer, with_line}, Putting.shown_by, declared.status.Status.TheVariants.Done}
use Rattle.lens_page.proofs.putting.put_text.Goals as goal

pub returns-in-Ok-clause-gives : goal.returns-in-Ok-clause-gives
returns-in-Ok-clause-gives g c =
    let shown = shown_by g.K.Sink in
    gives_then c.args.text.now (with_line c.args.report.now (line_answer Done page_closing)) c.put_report.result
    (shown c.args.out.now) c.in-Ok.ensures.all c.put.ensures.counted c.put_report.ensures.gives

pub returns-in-Err-clause-gives : goal.returns-in-Err-clause-gives
returns-in-Err-clause-gives g c =
    let shown = shown_by g.K.Sink in
    gives_no_more c.args.text.now (with_line c.args.report.now (line_answer Done page_closing)) (shown c.args.out.now) (shown c.put.new.self)
    c.in-Err.ensures.front c.put.ensures.counted
