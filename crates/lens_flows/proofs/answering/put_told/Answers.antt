use Rattle.lens_flows.{proofs.Summing.sum_none, specs.{Lines.sum_line, declared.counts.told.FlowTold.FlowTold}}
use Rattle.std.proofs.Common.{◌∙◌, ◌∷◌, [], ap, inl, inr, refl, subst, sum_by, sym}
use Rattle.tte_forms.proofs.{Puts.PutFails-more, frames.Frames.Gives-behind}
use Rattle.tte_forms.specs.{Answering.{Gives, line_answer}, Putting.shown_by, declared.status.Status.TheVariants.Done}
use Rattle.lens_flows.proofs.answering.put_told.Goals as goal

pub returns-clause-gives : goal.returns-clause-gives
returns-clause-gives g c =
    let shown = shown_by g.K.Sink in
    let all = c.args.told.now in
    let sums = c.as_slice.ensures ∙ c.make_sum_line.ensures ∙ ap (sum_line all) (sym (sum_none all)) in
    Gives-behind (line_answer Done (sum_line all (sum_by (λ (one : FlowTold). 0) all))) c.put_last.result c.in-Ok.ensures.puts
    (subst (λ bytes. Gives (line_answer Done bytes) c.put_last.result (shown c.put_each.new.out) (shown c.put_last.new.out)) sums
    c.put_last.ensures.gives)

pub returns-in-Err-clause-gives : goal.returns-in-Err-clause-gives
returns-in-Err-clause-gives g c =
    let all = c.args.told.now in
    inr (inl (refl, inl (PutFails-more (sum_line all (sum_by (λ (one : FlowTold). 0) all) ∷ []) c.in-Err.ensures.puts)))
