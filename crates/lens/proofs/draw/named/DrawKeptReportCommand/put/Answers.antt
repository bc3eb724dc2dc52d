use Rattle.lens.specs.draw.{Answer.IsViewAnswer, Keeping.AreLanes, Naming.{IsKeptAnswer, view_of}}
use Rattle.lens_svg.specs.Views.{Choice, View}
use Rattle.std.proofs.Common.{◌∙◌, List, Some, ap, subst, ℕ}
use Rattle.tte_forms.{proofs.Puts.answer_widened, specs.{Answering.Answer, Putting.shown_by}}
use Rattle.lens.proofs.draw.named.DrawKeptReportCommand.put.Goals as goal

pub put_draft-requires-clause-draft : goal.put_draft-requires-clause-draft
put_draft-requires-clause-draft g c notes end of = (c.in-Ok.ensures notes end of).is

pub returns-in-Ok-clause-gives : goal.returns-in-Ok-clause-gives
returns-in-Ok-clause-gives g c notes end of =
    let network = c.args.network.now in
    let own = c.args.self.now in
    let kept = c.in-Ok.ensures notes end of in
    let span = c.span_of-span.result in
    let shown = shown_by g.K.Sink in
    let choice : Choice = record { records = kept.records; lanes = kept.lanes } in
    let view = kept.view
    ∙ ap (λ (t : List ℕ). let v : View = record { span = span; kept = Some choice; title = t } in v) c.of-title.ensures
    ∙ ap (λ s. view_of own.words.now s kept.records kept.lanes) c.span_of-span.ensures in
    answer_widened (λ (a : Answer). IsViewAnswer c.in-Ok.draft.sketch.view network notes end a)
    (λ (a : Answer). IsKeptAnswer own.words.now own.part own.subject network notes end a)
    c.put_draft.result (shown c.args.out.now) (shown c.put_draft.new.out)
    (λ a is. record {
      records = kept.records;
      lanes = kept.lanes;
      are_kept = kept.are_kept;
      are_lanes = subst (λ s. AreLanes network s kept.records notes kept.lanes) c.span_of-span.ensures kept.are_lanes;
      is = subst (λ (v : View). IsViewAnswer v network notes end a) view is;
    }) (c.put_draft.ensures.gives notes end of)
