use Rattle.std.proofs.Common.{sym}
use Rattle.lens.proofs.draw_lemmas.Marking.{fit_answer, wide_answer}
use Rattle.tte_forms.specs.Putting.{shown_by}
use Rattle.lens.proofs.draw.drawing.put_sketch.Goals as goal

pub returns-then-fits-clause-gives : goal.returns-then-fits-clause-gives
returns-then-fits-clause-gives g c notes end of came =
    let draft = c.args.draft.now in
    let is = c.requires.draft notes end of in
    fit_answer c.args.network.now draft.sketch.view notes draft.sketch c.args.windows.now draft.clocks c.put_fitting.result is.sketch came is.clocks
    (sym c.if-fits.ensures) (c.put_fitting.ensures.gives notes end of is.sketch)

pub returns-else-fits-clause-gives : goal.returns-else-fits-clause-gives
returns-else-fits-clause-gives g c notes end of came =
    let shown = shown_by g.K.Sink in
    let draft = c.args.draft.now in
    wide_answer c.args.network.now draft.sketch.view notes draft.sketch c.end_with.result (shown c.args.out.now) (shown c.end_with.new.out)
    (c.requires.draft notes end of).sketch (sym c.if-fits.ensures) c.end_with.ensures.ends
