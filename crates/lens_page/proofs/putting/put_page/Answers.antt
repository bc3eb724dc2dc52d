use Rattle.lens_page.{proofs.Puts.{gives_no_more, gives_then}, specs.{Closing.page_closing, Opening.page_opening}}
use Rattle.{std.{proofs.Common.{◌∙◌, List, subst, ℕ}, specs.Io.KnownBytes.Appends}, tte_io.specs.Told.AppendsFront}
use Rattle.tte_forms.specs.{Answering.{line_answer, with_line}, Putting.shown_by, declared.status.Status.TheVariants.Done}
use Rattle.lens_page.proofs.putting.put_page.Goals as goal

pub returns-in-Ok-clause-gives : goal.returns-in-Ok-clause-gives
returns-in-Ok-clause-gives g c =
    let shown = shown_by g.K.Sink in
    let written = g.K.Sink.written in
    let whole = subst (λ (text : List ℕ). Appends (written c.args.out.now) (written c.put.new.self) text)
    (c.as_bytes.ensures.value ∙ c.page_opening.ensures) c.in-Ok.ensures.all in
    gives_then page_opening (with_line c.args.text.now (with_line c.args.report.now (line_answer Done page_closing))) c.put_text.result
    (shown c.args.out.now) whole c.put.ensures.counted c.put_text.ensures.gives

pub returns-in-Err-clause-gives : goal.returns-in-Err-clause-gives
returns-in-Err-clause-gives g c =
    let shown = shown_by g.K.Sink in
    let written = g.K.Sink.written in
    let front = subst (λ text. AppendsFront (written c.args.out.now) (written c.put.new.self) text)
    (c.as_bytes.ensures.value ∙ c.page_opening.ensures) c.in-Err.ensures.front in
    gives_no_more page_opening (with_line c.args.text.now (with_line c.args.report.now (line_answer Done page_closing))) (shown c.args.out.now)
    (shown c.put.new.self) front c.put.ensures.counted
