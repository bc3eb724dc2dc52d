use Rattle.lens.{proofs.draw_lemmas.Marking.{back_fails, back_given}, specs.draw.Picture.found_lines}
use Rattle.lens.specs.draw.Signs.{close_line}
use Rattle.lens_svg.specs.declared.mark.Mark.{Mark}
use Rattle.{std.proofs.Common.{◌≡◌, List, subst, ℕ}, tte_forms.specs.{Answering.{Gives, line_answer}, Putting.{PutFails, PutsLines, shown_by}}}
use Rattle.tte_forms.specs.declared.status.Status.TheVariants.{Done}
use Rattle.lens.proofs.draw.marks.put_back.Goals as goal

pub returns-in-Ok-clause-gives : goal.returns-in-Ok-clause-gives
returns-in-Ok-clause-gives g c notes end of same =
    let shown = shown_by g.K.Sink in
    let last : c.as_bytes.result.now ≡ close_line = c.as_bytes.ensures.value in
    back_given of c.args.sketch.now same c.put_last.result
    (subst (λ (ms : List Mark). PutsLines (found_lines c.args.network.now notes ms) (shown c.args.out.now) (shown c.put_drawn.new.out)) c.marks.ensures
    (c.in-Ok.ensures.draws notes end of))
    (subst (λ (bytes : List ℕ). Gives (line_answer Done bytes) c.put_last.result (shown c.put_drawn.new.out) (shown c.put_last.new.out)) last
    c.put_last.ensures.gives)

pub returns-in-Err-clause-gives : goal.returns-in-Err-clause-gives
returns-in-Err-clause-gives g c notes end of same =
    let shown = shown_by g.K.Sink in
    back_fails of c.args.sketch.now same
    (subst (λ (ms : List Mark). PutFails (found_lines c.args.network.now notes ms) (shown c.args.out.now) (shown c.put_drawn.new.out)) c.marks.ensures
    (c.in-Err.ensures.draws notes end of))
