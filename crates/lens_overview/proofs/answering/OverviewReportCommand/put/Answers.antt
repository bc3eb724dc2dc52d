use Rattle.lens_overview.{proofs.LawAnswers.missed_none, specs.Answer.{picture_for, pieces_answer}}
use Rattle.std.proofs.Common.{◌∙◌, [], inl, refl, subst}
use Rattle.lens_svg.specs.Titles.{title_of}
use Rattle.tte_forms.specs.{Answering.Gives, Putting.shown_by}
use Rattle.lens_overview.proofs.answering.OverviewReportCommand.put.Goals as goal

pub returns-in-Ok-clause-gives : goal.returns-in-Ok-clause-gives
returns-in-Ok-clause-gives g c notes end r =
    let shown = shown_by g.K.Sink in
    let network = c.args.network.now in
    let title = title_of c.args.self.now.words.now in
    let drawn = c.in-Ok.ensures notes end r in
    let same = c.as_slice.ensures.value ∙ drawn.2 in
    inl (
      pieces_answer network title (picture_for network notes [] drawn.0),
      record {
        flows = drawn.0;
        are = drawn.1;
        missed = [];
        each = missed_none network c.args.report.now.octets notes end c.requires.rules r;
        is = refl;
      },
      subst (λ all. Gives (pieces_answer network title all) c.put_pieces.result (shown c.args.out.now) (shown c.put_pieces.new.out)) same
          (subst (λ t. Gives (pieces_answer network t c.as_slice.result.now) c.put_pieces.result (shown c.args.out.now)
          (shown c.put_pieces.new.out)) c.of-title.ensures c.put_pieces.ensures.gives),
    )
