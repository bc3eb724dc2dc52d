use Rattle.lens.{proofs.draw_lemmas.Marking.{listed_fails, listed_more}, specs.draw.Picture.some_line}
use Rattle.tte_forms.specs.Putting.{PutFails, PutsLines, shown_by}
use Rattle.{lens_svg.specs.Layers.on_mark, std.proofs.Common.{◌∙◌, subst}}
use Rattle.lens.proofs.draw.putting.put_marks.Goals as goal

pub drawn-preserved : goal.drawn-preserved
drawn-preserved g c =
    let shown = shown_by g.K.Sink in
    let network = c.args.network.now in
    let plan = c.args.sketch.now in
    let layer = c.args.layer in
    record {
      puts =
          listed_more (λ mark. some_line network (on_mark layer network plan mark)) plan.marks c.marks-marks.result.now c.marks-marks.ensures
          c.drawn.mark-index c.drawn-test.true _ (shown c.args.out.now) (shown c.drawn.out) (shown c.put_some.new.out) c.drawn.invariant.puts
          (subst (λ e. PutsLines (some_line network e) (shown c.drawn.out) (shown c.put_some.new.out)) c.on_mark-element.ensures.value
          c.in-Ok.ensures.draws);
      quiet = c.in-Ok.ensures.faults ∙ c.drawn.invariant.quiet;
    }

pub returns-in-Err-clause-draws : goal.returns-in-Err-clause-draws
returns-in-Err-clause-draws g c =
    let shown = shown_by g.K.Sink in
    let network = c.args.network.now in
    let plan = c.args.sketch.now in
    let layer = c.args.layer in
    listed_fails (λ mark. some_line network (on_mark layer network plan mark)) plan.marks c.marks-marks.result.now c.marks-marks.ensures
    c.drawn.mark-index c.drawn-test.true _ (shown c.args.out.now) (shown c.drawn.out) (shown c.put_some.new.out) c.drawn.invariant.puts
    (subst (λ e. PutFails (some_line network e) (shown c.drawn.out) (shown c.put_some.new.out)) c.on_mark-element.ensures.value
    c.in-Err.ensures.draws)
