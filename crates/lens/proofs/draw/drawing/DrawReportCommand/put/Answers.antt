use Rattle.{lens.specs.draw.Answer.IsViewAnswer, lens_svg.specs.Views.View, std.proofs.Common.{◌∙◌, List, None, ap, subst, ℕ}}
use Rattle.tte_forms.specs.{Answering.{Answer, GivesAnswer}, Putting.shown_by}
use Rattle.lens.proofs.draw.drawing.DrawReportCommand.put.Goals as goal

pub returns-in-Ok-clause-gives : goal.returns-in-Ok-clause-gives
returns-in-Ok-clause-gives g c notes end of =
    let network = c.args.network.now in
    let span = c.args.self.now.span in
    let shown = shown_by g.K.Sink in
    let view = c.in-Ok.ensures.view
    ∙ ap (λ (t : List ℕ). let v : View = record { span = span; kept = None; title = t } in v) c.of-title.ensures in
    subst (λ (v : View). GivesAnswer (λ (a : Answer). IsViewAnswer v network notes end a) c.put_draft.result (shown c.args.out.now)
    (shown c.put_draft.new.out)) view (c.put_draft.ensures.gives notes end of)
