use Rattle.std.proofs.Common.{◌∙◌}
use Rattle.lens_overview.proofs.LawAnswers.{picture_same}
use Rattle.lens_overview.specs.Telling.{news_by}
use Rattle.lens_overview.proofs.answering.drawn.Goals as goal

pub returns : goal.returns
returns c notes end r =
    let network = c.args.network.now in
    let told = c.as_slice-all.ensures.value ∙ c.in_ok-news.ensures notes end r in (
      c.in-Ok.flows.items,
      c.in-Ok.ensures,
      c.in_ok-pieces.ensures
          ∙ picture_same network c.new-grid.result c.last_cycle-last.result c.as_slice-all.result.now (news_by network notes notes)
          c.as_slice.result.now c.in-Ok.flows.items told c.last_cycle-last.ensures c.new-grid.ensures.value c.as_slice.ensures.value,
    )
