use Rattle.lens.proofs.draw_lemmas.Marking.{front_fails, front_given}
use Rattle.tte_forms.specs.Putting.{shown_by}
use Rattle.lens.proofs.draw.drawing.put_fitting.Goals as goal

pub returns-in-Err-clause-gives : goal.returns-in-Err-clause-gives
returns-in-Err-clause-gives g c notes end of same =
    front_fails c.args.network.now c.args.sketch.now c.args.windows.now c.args.clocks.now notes c.in-Err.ensures.draws

pub returns-clause-gives : goal.returns-clause-gives
returns-clause-gives g c notes end of same =
    let shown = shown_by g.K.Sink in
    front_given c.args.network.now c.args.sketch.now c.args.windows.now c.args.clocks.now notes c.put_back.result
    c.in-Ok.ensures.draws (c.put_back.ensures.gives notes end of same)
